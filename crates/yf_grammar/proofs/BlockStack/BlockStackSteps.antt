-- A reader of block nodes with a stack keeps the outcomes of `Whole` and `Halts`: the outermost outcome when a node is
-- broken.
use Rattle.std.proofs.Common.{◌≡◌, ℕ, ◌+◌, false, List, [], ◌∷◌, length, Option, Some, None, refl, sym, ap, subst, arith}
use Rattle.yf_grammar.specs.FlowReader.Parser.{ParsedNode}
use Rattle.yf_grammar.specs.BlockReader.BlockParser.{BlockTask, Item, Whole}
use Rattle.yf_grammar.specs.BlockReader.BlockParser.Whole.{question_missed, items_missed}
use Rattle.yf_grammar.specs.BlockReader.Halts.{not_found, Halts}
use Rattle.yf_grammar.specs.BlockReader.Halts.Halts.{halts_item}
use Rattle.yf_grammar.specs.BlockReader.BlockSteps.{made_or, as_lone_key}
use Rattle.yf_grammar.specs.BlockReader.BlockStack.{Layer, AtKey, asks, entry_made, collection_made, rounds, Around, outermost, in_entry, in_key, column_if, asked}
use Rattle.yf_grammar.proofs.BlockStack.BlockStepEntries.{outcome_halted, question_halts}

-- a halt of the node made of it, or one before
pub made_twice : (f g : ParsedNode → ParsedNode) (o r x : Option ParsedNode) → made_or (λ z. g (f z)) (made_or g o r) x ≡ made_or g o (made_or f r x)
unfolding made_or
made_twice f g o r None = refl
made_twice f g o r (Some x) = refl

pub made_itself : (o : Option ParsedNode) → made_or (λ z. z) None o ≡ o
unfolding made_or
made_itself None = refl
made_itself (Some x) = refl

pub in_entry_halt : (ls : List Layer) (l : Layer) (r o z x : Option ParsedNode)
    → made_or (rounds ls) r (made_or (collection_made l) o (made_or (entry_made l.stage) z x)) ≡ made_or (rounds (l ∷ ls)) (made_or (rounds ls) r (made_or (collection_made l) o z)) x
unfolding made_or
in_entry_halt ls l r o z None = refl
in_entry_halt ls l r o z (Some f) = refl

pub in_key_halt : (ls : List Layer) (l : Layer) (i : ℕ) (r o x : Option ParsedNode) → l.stage ≡ AtKey i
    → made_or (rounds ls) r (made_or (collection_made l) o (made_or (as_lone_key i) None x)) ≡ made_or (rounds (l ∷ ls)) (made_or (rounds ls) r o) x
unfolding made_or
in_key_halt ls l i r o None k = refl
in_key_halt ls l i r o (Some f) k = ap (λ s. Some (rounds ls (collection_made l (entry_made s f)))) (sym k)

-- the number of open collections
pub room_left : {t : List ℕ} {d : ℕ} {root : BlockTask} {e : ℕ} {inner : BlockTask} {ls : List Layer} {r : Option ParsedNode} → Around t d root ls e inner r → length ls + e ≡ d
room_left outermost = omega arith
room_left (in_entry a n y s) = let b = room_left a in omega (arith, b)
room_left (in_key a n u k s) = let b = room_left a in omega (arith, b)

-- the columns of open `?` entries round the node of an entry that is no such entry, and round the key after a `?`
pub entry_asked : {t : List ℕ} {e : ℕ} {inner : BlockTask} {o : Option ParsedNode} (ls : List Layer) (l : Layer) → asks l.stage ≡ false → Halts t e (asked (l ∷ ls)) inner o
    → Halts t e (asked ls) inner o
entry_asked {t} {e} {inner} {o} ls l s h = subst (λ b. Halts t e (column_if b l.column (asked ls)) inner o) s h

pub key_asked : {t : List ℕ} {e i : ℕ} {inner : BlockTask} {o : Option ParsedNode} (ls : List Layer) (l : Layer) → l.stage ≡ AtKey i → Halts t e (asked (l ∷ ls)) inner o
    → Halts t e (l.column ∷ asked ls) inner o
key_asked {t} {e} {inner = inner} {o = o} ls l s h = subst (λ b. Halts t e (column_if (asks b) l.column (asked ls)) inner o) s h

-- if no node is found, none is found round it
pub node_broken : {t : List ℕ} {d : ℕ} {root : BlockTask} {e : ℕ} {inner : BlockTask} {ls : List Layer} {r : Option ParsedNode} → Around t d root ls e inner r → Whole t e inner None
    → Whole t d root None
node_broken outermost w = w
node_broken (in_entry a n y s) w = node_broken a (n.awaited.none (items_missed (y.awaited.none w)))
node_broken {t} (in_key {e = e} {i = i} {l = l} {q = q} a n u k s) w =
    let missed : Whole t e (Item l.sequence l.column q i) None = subst (λ b. Whole t e (Item b l.column q i) None) (sym s) (question_missed u w) in
    node_broken a (n.awaited.none (items_missed missed))

-- and its last halt is the one known before, or is made of the node's last halt
pub node_halted : {t : List ℕ} {d : ℕ} {root : BlockTask} {e : ℕ} {inner : BlockTask} {ls : List Layer} {r o : Option ParsedNode} → Around t d root ls e inner r
    → Whole t e inner None → Halts t e (asked ls) inner o → Halts t d [] root (made_or (rounds ls) r o)
node_halted {t} {d} {root} {o = o} outermost w h = subst (λ z. Halts t d [] root z) (sym (made_itself o)) h
node_halted {t} {d} {root} {o = x} (in_entry {e = e} {ls = ls} {l = l} {r = r} {o = o} {z = z} a n y s) w h =
    let missed = y.awaited.none w in
    let halt = outcome_halted n.halted (halts_item missed not_found (outcome_halted y.halted (entry_asked ls l s h))) in
    let last = node_halted a (n.awaited.none (items_missed missed)) halt in
    subst (λ u. Halts t d [] root u) (in_entry_halt ls l r o z x) last
node_halted {t} {d} {root} {o = x} (in_key {e = e} {i = i} {ls = ls} {l = l} {q = q} {r = r} {o = o} a n u k s) w h =
    let missed : Whole t e (Item l.sequence l.column q i) None = subst (λ b. Whole t e (Item b l.column q i) None) (sym s) (question_missed u w) in
    let entry : Halts t e (asked ls) (Item l.sequence l.column q i) (made_or (as_lone_key i) None x) =
    subst (λ b. Halts t e (asked ls) (Item b l.column q i) (made_or (as_lone_key i) None x)) (sym s)
    (question_halts u w not_found (key_asked ls l k h)) in
    let halt = outcome_halted n.halted (halts_item missed not_found entry) in
    let last = node_halted a (n.awaited.none (items_missed missed)) halt in
    subst (λ y. Halts t d [] root y) (in_key_halt ls l i r o x k) last
