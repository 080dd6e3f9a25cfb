-- A reader of block nodes with a stack, while it awaits a node: on its line or a later one, after properties, as the
-- first entry of a collection; and when the node is read, or missing.
use Rattle.std.proofs.Common.{◌≡◌, ℕ, suc, max, ℤ, Bool, true, false, List, [], ◌++◌, Option, Some, None, refl, sym, ap, ◌∙◌, subst, arith, append_assoc, append-nil}
use Rattle.yf_chars.specs.declared.context.Ctx.{Ctx}
use Rattle.yf_chars.specs.Chain.{Chosen}
use Rattle.yf_comments.specs.Comment.{CommentValue}
use Rattle.yf_comments.specs.Comments.{LineEnd}
use Rattle.yf_grammar.specs.Productions.Meaning.{◌⊕◌, meaning_after, collection}
use Rattle.yf_grammar.specs.FlowReader.Parser.{ParsedNode, only}
use Rattle.yf_grammar.specs.BlockReader.BlockParser.{DashAt, LineText, Columns, LineColumns, Begins, Ahead, Nothing, Indicator, Props, headed, past, First, MappingAt, BlockTask, Below, Inline, Items, Whole}
use Rattle.yf_grammar.specs.BlockReader.Halts.{Alone, Halts}
use Rattle.yf_grammar.specs.BlockReader.BlockAwaits.{after_entries}
use Rattle.yf_grammar.specs.BlockReader.BlockSteps.{TaskAwaited, TaskHalted, made_or, as_collection, as_after, as_outcome}
use Rattle.yf_grammar.specs.BlockReader.BlockStack.{Layer, rounds, asked}
use Rattle.yf_grammar.specs.BlockReader.BlockStates.{NodeAt, NodeRead, EntryAt, NodeIsBroken, new_layer, outcome_before}
use Rattle.yf_grammar.proofs.BlockStack.BlockStepEntries.{outcome_halted, awaits_through, halts_through}
use Rattle.yf_grammar.proofs.BlockStack.BlockStepNodes.{line_awaits, line_halts, sequence_awaits, sequence_halts, mapping_awaits, mapping_halts}
use Rattle.yf_grammar.proofs.BlockStack.BlockStackSteps.{made_twice, node_broken, node_halted}

-- the node is another task's
pub node_through : {t : List ℕ} {d : ℕ} {root : BlockTask} {ls : List Layer} {e : ℕ} {ds : List CommentValue} {task inner : BlockTask} {h : Option ParsedNode}
    → NodeAt t d root ls e ds task h → TaskAwaited t e inner (λ f. f) e task → TaskHalted t e (asked ls) inner (λ f. f) None e (asked ls) task → NodeAt t d root ls e ds inner h
unfolding made_or
node_through a w u = record {
  outer = a.outer;
  round = a.round;
  last = a.last;
  around = a.around;
  awaited = awaits_through w a.awaited;
  halted = halts_through u a.halted;
  halt = a.halt;
}

-- the node with the comments before it
after_twice : (ds es : List CommentValue) (f : ParsedNode) → as_after ds (as_after es f) ≡ as_after (ds ++ es) f
unfolding meaning_after
after_twice ds es f = ap (λ z. record f { meaning = record f.meaning { comments = z } }) (sym (append_assoc ds es f.meaning.comments))

told_after : (a : Ahead) (ds es : List CommentValue) (f : ParsedNode) → as_after ds (as_outcome a es f) ≡ as_after (ds ++ outcome_before a es) f
told_after Nothing ds es f = after_twice ds es f
told_after (Indicator i) ds es f = after_twice ds es f
told_after (Props h) ds es f = ap (λ z. as_after z f) (sym (append-nil ds))

last_made : (ls : List Layer) (ds : List CommentValue) (r z x h : Option ParsedNode) → h ≡ made_or (rounds ls) r z
    → made_or (λ f. rounds ls (as_after ds f)) h x ≡ made_or (rounds ls) r (made_or (as_after ds) z x)
last_made ls ds r z x h p = ap (λ u. made_or (λ f. rounds ls (as_after ds f)) u x) p ∙ made_twice (as_after ds) (rounds ls) r z x

-- it is on a later line; the node may be only its `Ahead`, and end before that line
pub node_on_line : {t : List ℕ} {d : ℕ} {root : BlockTask} {ls : List Layer} {e i k m p : ℕ} {n : ℤ} {c : Ctx} {a : Ahead} {cols : Columns} {ds es : List CommentValue}
    {h o : Option ParsedNode} → NodeAt t d root ls e ds (Below n c a i) h → Chosen (LineEnd t i) k es → LineText t k m p → Begins t n c i k m p → LineColumns n c k m p cols
    → Alone t (asked ls) a i o
    → NodeAt t d root ls e (ds ++ outcome_before a es) (Inline n c cols (past a es) p) (made_or (λ f. rounds ls (as_after ds f)) h o)
node_on_line {t} {ls = ls} {e = e} {a = a} {ds = ds} {es = es} {h = h} {o = o} s l x b r y =
    let inner = line_awaits l x b r in
    let halt = line_halts {e = e} l x b r y in
    record {
      outer = s.outer;
      round = s.round;
      last = made_or (as_after ds) s.last o;
      around = s.around;
      awaited = record {
        some = λ g w. subst (λ z. Whole t e s.outer (Some z)) (told_after a ds es g) (s.awaited.some (as_outcome a es g) (inner.some g w));
        none = λ w. s.awaited.none (inner.none w);
      };
      halted = record {
        some = λ g w. subst (λ z. Halts t e (asked ls) s.outer (Some z)) (told_after a ds es g) (s.halted.some (as_outcome a es g) (halt.some g w));
        none = λ w. outcome_halted s.halted (halt.none w);
      };
      halt = last_made ls ds s.round s.last o h s.halt;
    }

-- it is a collection
first_entries : (a : Ahead) (s : Bool) (p : ℕ) (f : ParsedNode) → as_collection a s p f ≡ as_collection a s p (after_entries 0 (only [] 0) f)
unfolding ◌⊕◌ only
first_entries a s p f =
    let e : f.height ≡ max 0 f.height = omega arith in
    ap (λ (z : ℕ). record { end = f.end; height = suc z; json = false; meaning = headed a (collection s false p f.meaning.finish f.meaning) }) e

collection_begins : {t : List ℕ} {d : ℕ} {root : BlockTask} {ls : List Layer} {e m p : ℕ} {n : ℤ} {a : Ahead} {ds : List CommentValue} {task : BlockTask} {h : Option ParsedNode}
    (s : Bool) → NodeAt t d root ls (suc e) ds task h → TaskAwaited t e (Items s m (First n) p) (as_collection a s p) (suc e) task
    → TaskHalted t e (asked ls) (Items s m (First n) p) (as_collection a s p) None (suc e) (asked ls) task
    → EntryAt t d root (new_layer s m a ds p) ls e (First n) p h
unfolding made_or
collection_begins {t} {ls = ls} {e = e} {p = p} {a = a} {ds = ds} s z w u = record {
  outer = z.outer;
  round = z.round;
  before = z.last;
  around = z.around;
  entries = record {
    awaited = record {
      some = λ g v. subst (λ y. Whole t (suc e) z.outer (Some (as_after ds y))) (first_entries a s p g) (z.awaited.some (as_collection a s p g) (w.some g v));
      none = λ v. z.awaited.none (w.none v);
    };
    halted = record {
      some = λ g v. subst (λ y. Halts t (suc e) (asked ls) z.outer (Some (as_after ds y))) (first_entries a s p g) (z.halted.some (as_collection a s p g) (u.some g v));
      none = λ v. z.halted.none (u.none v);
    };
  };
  halt = z.halt;
}

pub sequence_begins : {t : List ℕ} {d : ℕ} {root : BlockTask} {ls : List Layer} {e m p : ℕ} {n : ℤ} {c : Ctx} {cols : Columns} {a : Ahead} {ds : List CommentValue} {h : Option ParsedNode}
    → NodeAt t d root ls (suc e) ds (Inline n c cols a p) h → cols.sequence ≡ Some m → DashAt t p → EntryAt t d root (new_layer true m a ds p) ls e (First n) p h
sequence_begins s q y = collection_begins true s (sequence_awaits q y) (sequence_halts q y)

pub mapping_begins : {t : List ℕ} {d : ℕ} {root : BlockTask} {ls : List Layer} {e m p : ℕ} {n : ℤ} {c : Ctx} {cols : Columns} {a : Ahead} {ds : List CommentValue} {h : Option ParsedNode}
    → NodeAt t d root ls (suc e) ds (Inline n c cols a p) h → (DashAt t p → ⊥) → cols.mapping ≡ Some m → MappingAt t (suc e) n p
    → EntryAt t d root (new_layer false m a ds p) ls e (First n) p h
mapping_begins s u q y = collection_begins false s (mapping_awaits u q y) (mapping_halts u q y)

-- it is read, or missing
pub node_was_read : {t : List ℕ} {d : ℕ} {root : BlockTask} {ls : List Layer} {e : ℕ} {ds : List CommentValue} {task : BlockTask} {h o : Option ParsedNode} {f : ParsedNode}
    → NodeAt t d root ls e ds task h → Whole t e task (Some f) → Halts t e (asked ls) task o → NodeRead t d root ls e (as_after ds f) f.end (made_or (λ g. rounds ls (as_after ds g)) h o)
node_was_read {ls = ls} {ds = ds} {h = h} {o = o} {f = f} s w u = record {
  task = s.outer;
  round = s.round;
  last = made_or (as_after ds) s.last o;
  around = s.around;
  whole = s.awaited.some f w;
  halted = outcome_halted s.halted u;
  end = refl;
  halt = last_made ls ds s.round s.last o h s.halt;
}

pub node_breaks : {t : List ℕ} {d : ℕ} {root : BlockTask} {ls : List Layer} {e : ℕ} {ds : List CommentValue} {task : BlockTask} {h o : Option ParsedNode}
    → NodeAt t d root ls e ds task h → Whole t e task None → Halts t e (asked ls) task o → NodeIsBroken t d root (made_or (λ g. rounds ls (as_after ds g)) h o)
node_breaks {t} {d} {root} {ls} {ds = ds} {h = h} {o = o} s w u =
    let whole = s.awaited.none w in
    record {
      whole = node_broken s.around whole;
      halted = subst (λ z. Halts t d [] root z) (sym (last_made ls ds s.round s.last o h s.halt)) (node_halted s.around whole (outcome_halted s.halted u));
    }
