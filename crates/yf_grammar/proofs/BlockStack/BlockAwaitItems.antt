-- The entries of a block collection that is read: from one entry to the next, and to the end of the collection.
use Rattle.std.proofs.Common.{◌≡◌, ℕ, max, ◌+◌, Bool, false, List, Option, Some, None, refl, ap, ◌∙◌, subst, arith}
use Rattle.yf_grammar.specs.Productions.Meaning.{Meaning, ◌⊕◌}
use Rattle.yf_grammar.specs.FlowReader.Parser.{ParsedNode, found}
use Rattle.yf_grammar.specs.BlockReader.BlockParser.{Origin, Later, Items, Item, NextEntry, NoEntry, DeeperLine, items_found, Whole}
use Rattle.yf_grammar.specs.BlockReader.BlockParser.Whole.{items_missed, items_last, items_deeper, items_then, items_then_missed}
use Rattle.yf_grammar.specs.BlockReader.Halts.{NoneAfter, Halts}
use Rattle.yf_grammar.specs.BlockReader.Halts.Halts.{halts_item, halts_before_item, halts_items}
use Rattle.yf_grammar.specs.BlockReader.BlockAwaits.{after_entries, kept_halt, ItemsAwaited, ItemsHalted}
use Rattle.yf_grammar.proofs.FlowStack.AwaitEntries.{plus_assoc}

items_found_is : (f g : ParsedNode) → items_found f g ≡ Some (after_entries f.height f.meaning g)
unfolding items_found found
items_found_is f g = refl

-- the first entry was read, and another one follows
pub first_entry : {t : List ℕ} {e : ℕ} {s : Bool} {m : ℕ} {q : Origin} {p : ℕ} {f : ParsedNode} → Whole t e (Item s m q p) (Some f) → NextEntry t s m f.end
    → ItemsAwaited t e s m q p (f.end + m) f.height f.meaning
first_entry {t} {e} {s} {m} {q} {p} {f} w n = record {
  some = λ g r. subst (λ z. Whole t e (Items s m q p) z) (items_found_is f g) (items_then w n r);
  none = λ r. items_then_missed w n r;
}

pub first_halt : {t : List ℕ} {e : ℕ} {ws : List ℕ} {s : Bool} {m : ℕ} {q : Origin} {p : ℕ} {f : ParsedNode} {o : Option ParsedNode} → Whole t e (Item s m q p) (Some f)
    → NextEntry t s m f.end → Halts t e ws (Item s m q p) o → ItemsHalted t e ws s m q p (f.end + m) f.height f.meaning o
first_halt {t} {e} {ws} {s} {m} {q} {p} {f} {o} w n a = record {
  some = λ g r. subst (λ z. Halts t e ws (Items s m q p) z) (items_found_is f g) (halts_items w n r);
  none = λ r. halts_before_item w n r a;
}

-- an entry that is missing, the last one, and one that a deeper line breaks
pub entry_missing : {t : List ℕ} {e : ℕ} {s : Bool} {m : ℕ} {q : Origin} {p i h : ℕ} {x : Meaning} → ItemsAwaited t e s m q p i h x
    → Whole t e (Item s m Later i) None → Whole t e (Items s m q p) None
entry_missing a w = a.none (items_missed w)

pub entry_ends : {t : List ℕ} {e : ℕ} {s : Bool} {m : ℕ} {q : Origin} {p i h : ℕ} {x : Meaning} {f : ParsedNode} → ItemsAwaited t e s m q p i h x
    → Whole t e (Item s m Later i) (Some f) → NoEntry t s m f.end → Whole t e (Items s m q p) (Some (after_entries h x f))
entry_ends {f = f} a w n = a.some f (items_last w n)

pub entry_broken : {t : List ℕ} {e : ℕ} {s : Bool} {m : ℕ} {q : Origin} {p i h : ℕ} {x : Meaning} {f : ParsedNode} → ItemsAwaited t e s m q p i h x
    → Whole t e (Item s m Later i) (Some f) → DeeperLine t m f.end → Whole t e (Items s m q p) None
entry_broken a w d = a.none (items_deeper w d)

pub regrouped : (h : ℕ) (x : Meaning) (f g : ParsedNode)
    → after_entries h x (after_entries f.height f.meaning g) ≡ after_entries (max h f.height) (x ⊕ f.meaning) g
regrouped h x f g = ap (λ (z : ℕ). record { end = g.end; height = z; json = false; meaning = x ⊕ (f.meaning ⊕ g.meaning) }) (omega arith)
    ∙ ap (λ w. record { end = g.end; height = max (max h f.height) g.height; json = false; meaning = w }) (plus_assoc x f.meaning g.meaning)

-- an entry was read, and another one follows
pub entry_then : {t : List ℕ} {e : ℕ} {s : Bool} {m : ℕ} {q : Origin} {p i h : ℕ} {x : Meaning} {f : ParsedNode} → ItemsAwaited t e s m q p i h x
    → Whole t e (Item s m Later i) (Some f) → NextEntry t s m f.end → ItemsAwaited t e s m q p (f.end + m) (max h f.height) (x ⊕ f.meaning)
entry_then {t} {e} {s} {m} {q} {p} {i} {h} {x} {f} a w n = record {
  some = λ g r. subst (λ z. Whole t e (Items s m q p) z) (ap (λ z. Some z) (regrouped h x f g))
      (a.some (after_entries f.height f.meaning g) (subst (λ z. Whole t e (Items s m Later i) z) (items_found_is f g) (items_then w n r)));
  none = λ r. a.none (items_then_missed w n r);
}

-- if the rest has an end, it counts, otherwise the last halt so far
pub halt_of_rest : {t : List ℕ} {e : ℕ} {ws : List ℕ} {s : Bool} {m : ℕ} {q : Origin} {p i h : ℕ} {x : Meaning} {o r : Option ParsedNode}
    → ItemsHalted t e ws s m q p i h x o → Halts t e ws (Items s m Later i) r → Halts t e ws (Items s m q p) (kept_halt h x o r)
unfolding kept_halt
halt_of_rest {r = None} a b = a.none b
halt_of_rest {r = Some g} a b = a.some g b

pub halt_then : {t : List ℕ} {e : ℕ} {ws : List ℕ} {s : Bool} {m : ℕ} {q : Origin} {p i h : ℕ} {x : Meaning} {o r : Option ParsedNode} {f : ParsedNode}
    → ItemsHalted t e ws s m q p i h x o → Whole t e (Item s m Later i) (Some f) → NextEntry t s m f.end → Halts t e ws (Item s m Later i) r
    → ItemsHalted t e ws s m q p (f.end + m) (max h f.height) (x ⊕ f.meaning) (kept_halt h x o r)
halt_then {t} {e} {ws} {s} {m} {q} {p} {i} {h} {x} {o} {r} {f} a w n b = record {
  some = λ g c. subst (λ z. Halts t e ws (Items s m q p) z) (ap (λ z. Some z) (regrouped h x f g))
      (a.some (after_entries f.height f.meaning g) (subst (λ z. Halts t e ws (Items s m Later i) z) (items_found_is f g) (halts_items w n c)));
  none = λ c. halt_of_rest a (halts_before_item w n c b);
}

-- no entry follows, or the entry is broken: its own last halt counts
pub halt_ends : {t : List ℕ} {e : ℕ} {ws : List ℕ} {s : Bool} {m : ℕ} {q : Origin} {p i h : ℕ} {x : Meaning} {o r w : Option ParsedNode}
    → ItemsHalted t e ws s m q p i h x o → Whole t e (Item s m Later i) w → NoneAfter (NextEntry t s m) w → Halts t e ws (Item s m Later i) r
    → Halts t e ws (Items s m q p) (kept_halt h x o r)
halt_ends a w n b = halt_of_rest a (halts_item w n b)
