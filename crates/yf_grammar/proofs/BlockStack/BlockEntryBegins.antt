-- A reader of block nodes with a stack, at the beginning of an entry: it awaits a node after `-`, `?`, `:` or a key, or
-- after the `:` of an entry with a key that was read; or the entry is missing.
use Rattle.std.proofs.Common.{◌≡◌, ℕ, ◌+◌, ◌≤◌, pos, true, false, List, [], ◌∷◌, Option, Some, None, refl, sym, ap, ◌∙◌, subst, true≢false}
use Rattle.yf_chars.specs.declared.context.Ctx.TheVariants.{BlockOut, BlockIn, FlowOut}
use Rattle.yf_grammar.specs.Productions.Grammar.{ColonLine}
use Rattle.yf_grammar.specs.Productions.Meaning.{meaning_after}
use Rattle.yf_grammar.specs.FlowReader.Parser.{ParsedNode, Parses, ANode}
use Rattle.yf_grammar.specs.BlockReader.BlockParser.{DashAt, SignAt, Indicator, KeyBefore, Origin, key_limit, key_indent, BlockTask, Awaited, Item, Whole}
use Rattle.yf_grammar.specs.BlockReader.BlockParser.Whole.{items_missed}
use Rattle.yf_grammar.specs.BlockReader.Halts.{not_found, Halts}
use Rattle.yf_grammar.specs.BlockReader.Halts.Halts.{halts_item}
use Rattle.yf_grammar.specs.BlockReader.BlockSteps.{TaskAwaited, TaskHalted, made_or, as_item, as_lone_key, as_lone_value, as_value}
use Rattle.yf_grammar.specs.BlockReader.BlockStack.{Layer, Stage, AtItem, AtKey, AtLoneValue, AtValue, asks, rounds, EntriesIn, EntryIn, asked, Around, in_entry, in_key}
use Rattle.yf_grammar.specs.BlockReader.BlockStates.{NodeAt, NodeRead, EntryAt, NodeIsBroken, at_stage, place_of}
use Rattle.yf_grammar.proofs.BlockStack.BlockStepEntries.{awaits_itself, halts_itself, dash_awaits, dash_halts, colon_awaits, colon_halts, key_awaits, key_halts, value_awaits, value_halts}
use Rattle.yf_grammar.proofs.BlockStack.BlockStackSteps.{in_key_halt, key_asked, node_broken, node_halted}

pub node_is_at : {t : List ℕ} {d : ℕ} {root : BlockTask} {ls : List Layer} {e : ℕ} {inner : BlockTask} {r h : Option ParsedNode} → Around t d root ls e inner r → h ≡ r
    → NodeAt t d root ls e [] inner h
unfolding made_or meaning_after
node_is_at {inner = inner} {r = r} a p = record { outer = inner; round = r; last = None; around = a; awaited = awaits_itself; halted = halts_itself; halt = p }

-- an entry that has begun and has no last halt yet, not at the key after a `?`
entry_begun : {t : List ℕ} {d : ℕ} {root : BlockTask} {l : Layer} {ls : List Layer} {e : ℕ} {q : Origin} {i : ℕ} {inner : BlockTask} {h : Option ParsedNode} (s : Stage)
    → EntryAt t d root l ls e q i h → asks s ≡ false → EntryIn t e (asked ls) (at_stage l s) q i None inner → NodeAt t d root (at_stage l s ∷ ls) e [] inner h
unfolding made_or
entry_begun {t} {l = l} {ls = ls} {e = e} {q = q} {i = i} s a n y =
    let entries : EntriesIn t e (asked ls) (at_stage l s) q i a.before a.outer = record { awaited = a.entries.awaited; halted = a.entries.halted } in
    node_is_at (in_entry a.around entries y n) a.halt

pub item_begins : {t : List ℕ} {d : ℕ} {root : BlockTask} {l : Layer} {ls : List Layer} {e : ℕ} {q : Origin} {i : ℕ} {h : Option ParsedNode} → EntryAt t d root l ls e q i h
    → l.sequence ≡ true → DashAt t i → NodeAt t d root (at_stage l (AtItem i) ∷ ls) e [] (Awaited true (pos l.column) BlockIn (Indicator (i + 1)) (i + 1)) h
item_begins {t} {l = l} {ls = ls} {e = e} {q = q} {i = i} a s y =
    let task : BlockTask = Awaited true (pos l.column) BlockIn (Indicator (i + 1)) (i + 1) in
    entry_begun (AtItem i) a refl (record {
      awaited = subst (λ b. TaskAwaited t e task (as_item i) e (Item b l.column q i)) (sym s) (dash_awaits y);
      halted = subst (λ b. TaskHalted t e (asked ls) task (as_item i) None e (asked ls) (Item b l.column q i)) (sym s) (dash_halts y);
    })

pub lone_value_begins : {t : List ℕ} {d : ℕ} {root : BlockTask} {l : Layer} {ls : List Layer} {e : ℕ} {q : Origin} {i : ℕ} {h : Option ParsedNode} → EntryAt t d root l ls e q i h
    → l.sequence ≡ false → SignAt t 58 i → NodeAt t d root (at_stage l (AtLoneValue i) ∷ ls) e [] (Awaited false (pos l.column) BlockOut (Indicator (i + 1)) (i + 1)) h
lone_value_begins {t} {l = l} {ls = ls} {e = e} {q = q} {i = i} a s y =
    let task : BlockTask = Awaited false (pos l.column) BlockOut (Indicator (i + 1)) (i + 1) in
    entry_begun (AtLoneValue i) a refl (record {
      awaited = subst (λ b. TaskAwaited t e task (as_lone_value i) e (Item b l.column q i)) (sym s) (colon_awaits y);
      halted = subst (λ b. TaskHalted t e (asked ls) task (as_lone_value i) None e (asked ls) (Item b l.column q i)) (sym s) (colon_halts y);
    })

pub value_begins : {t : List ℕ} {d : ℕ} {root : BlockTask} {l : Layer} {ls : List Layer} {e : ℕ} {q : Origin} {i k : ℕ} {h : Option ParsedNode} {f : ParsedNode}
    → EntryAt t d root l ls e q i h → l.sequence ≡ false → (SignAt t 63 i → ⊥) → (SignAt t 58 i → ⊥)
    → Parses t (key_limit e q) (ANode (key_indent l.column q) FlowOut i) (Some f) → f.height ≤ e → KeyBefore t i f k
    → NodeAt t d root (at_stage l (AtValue i k f) ∷ ls) e [] (Awaited false (pos l.column) BlockOut (Indicator (k + 1)) (k + 1)) h
value_begins {t} {l = l} {ls = ls} {e = e} {q = q} {i = i} {k = k} {f = f} a s u c p m b =
    let task : BlockTask = Awaited false (pos l.column) BlockOut (Indicator (k + 1)) (k + 1) in
    entry_begun (AtValue i k f) a refl (record {
      awaited = subst (λ z. TaskAwaited t e task (as_value i k f) e (Item z l.column q i)) (sym s) (key_awaits u c p m b);
      halted = subst (λ z. TaskHalted t e (asked ls) task (as_value i k f) None e (asked ls) (Item z l.column q i)) (sym s) (key_halts u c p m b);
    })

pub key_begins : {t : List ℕ} {d : ℕ} {root : BlockTask} {l : Layer} {ls : List Layer} {e : ℕ} {q : Origin} {i : ℕ} {h : Option ParsedNode} → EntryAt t d root l ls e q i h
    → l.sequence ≡ false → SignAt t 63 i → NodeAt t d root (at_stage l (AtKey i) ∷ ls) e [] (Awaited true (pos l.column) BlockOut (Indicator (i + 1)) (i + 1)) h
key_begins {t} {l = l} {ls = ls} {e = e} {q = q} {i = i} a s y =
    let entries : EntriesIn t e (asked ls) (at_stage l (AtKey i)) q i a.before a.outer = record { awaited = a.entries.awaited; halted = a.entries.halted } in
    node_is_at (in_key a.around entries y refl s) a.halt

-- the value after the key of an entry with a `?`
value_after : {t : List ℕ} {d : ℕ} {root : BlockTask} {l : Layer} {ls : List Layer} {e : ℕ} {inner : BlockTask} {r x h : Option ParsedNode} {f : ParsedNode} → Around t d root (l ∷ ls) e inner r
    → Whole t e inner (Some f) → Halts t e (asked (l ∷ ls)) inner x → h ≡ made_or (rounds (l ∷ ls)) r x → asks l.stage ≡ true → ColonLine t l.column f.end
    → NodeAt t d root (at_stage l (AtValue (place_of l.stage) (f.end + l.column) f) ∷ ls) e []
    (Awaited true (pos l.column) BlockOut (Indicator (f.end + l.column + 1)) (f.end + l.column + 1)) h
value_after (in_entry a n y s) w u p c v = absurd (true≢false (sym c ∙ s))
value_after {t} {d} {root} {l} {ls} {e} {x = x} {h = h} {f = f} (in_key {i = i} {q = q} {r = r} {o = o} a n b k s) w u p c v =
    let task : BlockTask = Awaited true (pos l.column) BlockOut (Indicator (f.end + l.column + 1)) (f.end + l.column + 1) in
    let made = as_value i (f.end + l.column) f in
    let key : Option ParsedNode = made_or (as_lone_key i) None x in
    let place : i ≡ place_of l.stage = ap (λ z. place_of z) (sym k) in
    let stage = λ (z : ℕ). at_stage l (AtValue z (f.end + l.column) f) in
    let entries : EntriesIn t e (asked ls) (stage i) q i o _ = record { awaited = n.awaited; halted = n.halted } in
    let entry : EntryIn t e (asked ls) (stage i) q i key task = record {
      awaited = subst (λ z. TaskAwaited t e task made e (Item z l.column q i)) (sym s) (value_awaits b w v);
      halted = subst (λ z. TaskHalted t e (asked ls) task made key e (asked ls) (Item z l.column q i)) (sym s) (value_halts b w v (key_asked ls l k u));
    } in
    let found = node_is_at (in_entry a entries entry refl) (p ∙ sym (in_key_halt ls l i r o x k)) in
    subst (λ z. NodeAt t d root (stage z ∷ ls) e [] task h) place found

pub value_follows : {t : List ℕ} {d : ℕ} {root : BlockTask} {l : Layer} {ls : List Layer} {e at : ℕ} {h : Option ParsedNode} {f : ParsedNode} → NodeRead t d root (l ∷ ls) e f at h → asks l.stage ≡ true
    → ColonLine t l.column at → NodeAt t d root (at_stage l (AtValue (place_of l.stage) (at + l.column) f) ∷ ls) e []
    (Awaited true (pos l.column) BlockOut (Indicator (at + l.column + 1)) (at + l.column + 1)) h
value_follows {t} {d} {root} {l = l} {ls = ls} {e = e} {at = at} {h = h} {f = f} s c v =
    subst (λ z. NodeAt t d root (at_stage l (AtValue (place_of l.stage) (z + l.column) f) ∷ ls) e []
    (Awaited true (pos l.column) BlockOut (Indicator (z + l.column + 1)) (z + l.column + 1)) h) s.end
    (value_after s.around s.whole s.halted s.halt c (subst (λ z. ColonLine t l.column z) (sym s.end) v))

-- an entry that is missing
pub entry_breaks : {t : List ℕ} {d : ℕ} {root : BlockTask} {l : Layer} {ls : List Layer} {e : ℕ} {q : Origin} {i : ℕ} {h : Option ParsedNode} → EntryAt t d root l ls e q i h
    → Whole t e (Item l.sequence l.column q i) None → Halts t e (asked ls) (Item l.sequence l.column q i) None → NodeIsBroken t d root h
entry_breaks {t} {d} {root} a w u =
    let whole = a.entries.awaited.none (items_missed w) in
    let halt = a.entries.halted.none (halts_item w not_found u) in
    record { whole = node_broken a.around whole; halted = subst (λ z. Halts t d [] root z) (sym a.halt) (node_halted a.around whole halt) }
