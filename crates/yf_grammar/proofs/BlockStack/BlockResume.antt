-- A reader of block nodes with a stack, after a whole node: its entry ends, or the `:` after its key follows. Then the
-- next entry of the innermost collection begins; or that collection ends, and perhaps some round it; or a deeper line
-- breaks all.
use Rattle.std.proofs.Common.{◌≡◌, ℕ, suc, ◌+◌, Bool, true, List, [], ◌∷◌, Option, Some, None, refl, sym, ap, ◌∙◌, subst, arith}
use Rattle.yf_grammar.specs.Productions.Grammar.{ColonLine}
use Rattle.yf_grammar.specs.FlowReader.Parser.{ParsedNode, found}
use Rattle.yf_grammar.specs.BlockReader.BlockParser.{Origin, Later, BlockTask, Item, NextEntry, next_item, next_pair, NoEntry, DeeperLine, items_found, Whole}
use Rattle.yf_grammar.specs.BlockReader.BlockParser.Whole.{items_last, items_deeper, items_then, items_then_missed}
use Rattle.yf_grammar.specs.BlockReader.Halts.{not_after, Halts}
use Rattle.yf_grammar.specs.BlockReader.Halts.Halts.{halts_item, halts_before_item, halts_items}
use Rattle.yf_grammar.specs.BlockReader.BlockAwaits.{after_entries}
use Rattle.yf_grammar.specs.BlockReader.BlockSteps.{made_or, as_lone_key, as_collection, as_after}
use Rattle.yf_grammar.specs.BlockReader.BlockStack.{Layer, Stage, AtKey, AtValue, asks, entry_made, collection_made, rounds, EntriesIn, asked, Around, outermost, in_entry, in_key}
use Rattle.yf_grammar.specs.BlockReader.BlockStates.{NodeRead, EntryRead, EntryAt, NodeIsBroken, with_entry}
use Rattle.yf_grammar.proofs.BlockStack.BlockAwaitItems.{regrouped}
use Rattle.yf_grammar.proofs.BlockOutcomes.BlockClaims.{line_unique}
use Rattle.yf_grammar.proofs.BlockStack.BlockStepEntries.{outcome_halted, question_ends, question_halts}
use Rattle.yf_grammar.proofs.BlockStack.BlockStackSteps.{made_itself, in_entry_halt, in_key_halt, entry_asked, key_asked, node_broken, node_halted}

-- a node made of a node has its end
pub entry_end : (s : Stage) (f : ParsedNode) → (entry_made s f).end ≡ f.end
entry_end (Stage.AtItem i) f = refl
entry_end (AtKey i) f = refl
entry_end (Stage.AtLoneValue i) f = refl
entry_end (AtValue i k g) f = refl

entry_after : {t : List ℕ} {d : ℕ} {root : BlockTask} {l : Layer} {ls : List Layer} {e at : ℕ} {inner : BlockTask} {r x h : Option ParsedNode} {f : ParsedNode} → Around t d root (l ∷ ls) e inner r
    → Whole t e inner (Some f) → Halts t e (asked (l ∷ ls)) inner x → f.end ≡ at → h ≡ made_or (rounds (l ∷ ls)) r x → (asks l.stage ≡ true → ColonLine t l.column at → ⊥)
    → EntryRead t d root l ls e (entry_made l.stage f) at h
entry_after {l = l} {ls = ls} {x = x} {f = f} (in_entry {r = r} {o = o} {z = z} a n y s) w u j p c = record {
  outer = _;
  origin = _;
  start = _;
  round = r;
  before = o;
  last = made_or (entry_made l.stage) z x;
  around = a;
  entries = n;
  whole = y.awaited.some f w;
  halted = outcome_halted y.halted (entry_asked ls l s u);
  end = entry_end l.stage f ∙ j;
  halt = p ∙ sym (in_entry_halt ls l r o z x);
}
entry_after {t} {d} {root} {l} {ls} {e} {at} {x = x} {h = h} {f = f} (in_key {i = i} {q = q} {r = r} {o = o} a n b k s) w u j p c =
    let no_colon : (ColonLine t l.column f.end → ⊥) = λ v. c (ap (λ z. asks z) k) (subst (λ z. ColonLine t l.column z) j v) in
    let read : EntryRead t d root l ls e (as_lone_key i f) at h = record {
      outer = _;
      origin = q;
      start = i;
      round = r;
      before = o;
      last = made_or (as_lone_key i) None x;
      around = a;
      entries = n;
      whole = subst (λ z. Whole t e (Item z l.column q i) (Some (as_lone_key i f))) (sym s) (question_ends b w no_colon);
      halted = subst (λ z. Halts t e (asked ls) (Item z l.column q i) (made_or (as_lone_key i) None x)) (sym s)
          (question_halts b w (not_after no_colon) (key_asked ls l k u));
      end = j;
      halt = p ∙ sym (in_key_halt ls l i r o x k);
    } in
    subst (λ z. EntryRead t d root l ls e (entry_made z f) at h) (sym k) read

-- the entry ends with its node, if that is no key before a `:`
pub entry_was_read : {t : List ℕ} {d : ℕ} {root : BlockTask} {l : Layer} {ls : List Layer} {e at : ℕ} {h : Option ParsedNode} {f : ParsedNode} → NodeRead t d root (l ∷ ls) e f at h
    → (asks l.stage ≡ true → ColonLine t l.column at → ⊥) → EntryRead t d root l ls e (entry_made l.stage f) at h
entry_was_read s c = entry_after s.around s.whole s.halted s.end s.halt c

-- the collection ends with its entry
pub collection_ends : {t : List ℕ} {d : ℕ} {root : BlockTask} {l : Layer} {ls : List Layer} {e at : ℕ} {h : Option ParsedNode} {f : ParsedNode} → EntryRead t d root l ls e f at h
    → NoEntry t l.sequence l.column at → NodeRead t d root ls (suc e) (collection_made l f) at h
collection_ends {t} {l = l} {f = f} s n =
    let no_more : NoEntry t l.sequence l.column f.end = subst (λ z. NoEntry t l.sequence l.column z) (sym s.end) n in
    record {
      task = s.outer;
      round = s.round;
      last = made_or (collection_made l) s.before s.last;
      around = s.around;
      whole = s.entries.awaited.some f (items_last s.whole no_more);
      halted = outcome_halted s.entries.halted (halts_item s.whole (not_after (λ z. no_more.no_next z)) s.halted);
      end = s.end;
      halt = s.halt;
    }

-- a deeper line breaks all
deeper_no_next : {t : List ℕ} {s : Bool} {m k : ℕ} → DeeperLine t m k → NextEntry t s m k → ⊥
deeper_no_next d (next_item w z) = let e = (line_unique w d.line).0 in let b = d.deep in omega (arith, e, b)
deeper_no_next d (next_pair w) = let e = (line_unique w d.line).0 in let b = d.deep in omega (arith, e, b)

pub deeper_breaks : {t : List ℕ} {d : ℕ} {root : BlockTask} {l : Layer} {ls : List Layer} {e at : ℕ} {h : Option ParsedNode} {f : ParsedNode} → EntryRead t d root l ls e f at h
    → DeeperLine t l.column at → NodeIsBroken t d root h
deeper_breaks {t} {d} {root} {l} {ls} {f = f} s v =
    let deep : DeeperLine t l.column f.end = subst (λ z. DeeperLine t l.column z) (sym s.end) v in
    let whole = s.entries.awaited.none (items_deeper s.whole deep) in
    let halt = outcome_halted s.entries.halted (halts_item s.whole (not_after (deeper_no_next deep)) s.halted) in
    record {
      whole = node_broken s.around whole;
      halted = subst (λ z. Halts t d [] root z) (sym s.halt) (node_halted s.around whole halt);
    }

-- another entry follows
after_twice : (l : Layer) (f g : ParsedNode) → collection_made l (after_entries f.height f.meaning g) ≡ collection_made (with_entry l f) g
after_twice l f g = ap (λ z. as_after l.comments (as_collection l.ahead l.sequence l.first z)) (regrouped l.high l.known f g)

entries_follow : {t : List ℕ} {e i : ℕ} {ws : List ℕ} {l : Layer} {q : Origin} {o x : Option ParsedNode} {outer : BlockTask} {f : ParsedNode} → EntriesIn t e ws l q i o outer
    → Whole t e (Item l.sequence l.column q i) (Some f) → Halts t e ws (Item l.sequence l.column q i) x → NextEntry t l.sequence l.column f.end
    → EntriesIn t e ws (with_entry l f) Later (f.end + l.column) (made_or (collection_made l) o x) outer
unfolding items_found found
entries_follow {t} {e} {i} {ws} {l} {q} {o} {x} {outer} {f} n w u b = record {
  awaited = record {
    some = λ g r. subst (λ z. Whole t (suc e) outer (Some z)) (after_twice l f g) (n.awaited.some (after_entries f.height f.meaning g) (items_then w b r));
    none = λ r. n.awaited.none (items_then_missed w b r);
  };
  halted = record {
    some = λ g r. subst (λ z. Halts t (suc e) ws outer (Some z)) (after_twice l f g) (n.halted.some (after_entries f.height f.meaning g) (halts_items w b r));
    none = λ r. outcome_halted n.halted (halts_before_item w b r u);
  };
}

pub entry_follows : {t : List ℕ} {d : ℕ} {root : BlockTask} {l : Layer} {ls : List Layer} {e at : ℕ} {h : Option ParsedNode} {f : ParsedNode} → EntryRead t d root l ls e f at h
    → NextEntry t l.sequence l.column at → EntryAt t d root (with_entry l f) ls e Later (at + l.column) h
entry_follows {t} {l = l} {ls = ls} {e = e} {at = at} {f = f} s b = record {
  outer = s.outer;
  round = s.round;
  before = made_or (collection_made l) s.before s.last;
  around = s.around;
  entries = subst (λ z. EntriesIn t e (asked ls) (with_entry l f) Later (z + l.column) (made_or (collection_made l) s.before s.last) s.outer) s.end
      (entries_follow s.entries s.whole s.halted (subst (λ z. NextEntry t l.sequence l.column z) (sym s.end) b));
  halt = s.halt;
}

-- the outermost node has been read
whole_root : {t : List ℕ} {d : ℕ} {root : BlockTask} {e : ℕ} {inner : BlockTask} {r o : Option ParsedNode} → Around t d root [] e inner r → Whole t e inner o → Whole t d root o
whole_root outermost w = w

halted_root : {t : List ℕ} {d : ℕ} {root : BlockTask} {e : ℕ} {inner : BlockTask} {r o : Option ParsedNode} → Around t d root [] e inner r → Halts t e [] inner o
    → Halts t d [] root (made_or (λ z. z) r o)
halted_root {t} {d} {root} {o = o} outermost w = subst (λ z. Halts t d [] root z) (sym (made_itself o)) w

pub root_was_read : {t : List ℕ} {d : ℕ} {root : BlockTask} {e at : ℕ} {h : Option ParsedNode} {f : ParsedNode} → NodeRead t d root [] e f at h → Whole t d root (Some f)
root_was_read s = whole_root s.around s.whole

pub root_halts : {t : List ℕ} {d : ℕ} {root : BlockTask} {e at : ℕ} {h : Option ParsedNode} {f : ParsedNode} → NodeRead t d root [] e f at h → Halts t d [] root h
root_halts {t} {d} {root} s = subst (λ z. Halts t d [] root z) (sym s.halt) (halted_root s.around s.halted)
