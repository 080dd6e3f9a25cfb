-- The relation of a line to a frame is its relation to the frame's collection.
use Rattle.std.proofs.Common.{◌≡◌, ℕ, ◌+◌, ◌<◌, Bool, true, false, List, ⊎_elim, refl, sym, ap, ◌∙◌, subst, true≢false}
use Rattle.std.proofs.lemmas.Bool.{cases_Bool}
use Rattle.yf_grammar.specs.BlockReader.BlockParser.{DashAt, LineText, NextEntry, DeeperLine}
use Rattle.yf_grammar.specs.BlockReader.BlockStack.{Layer, asks}
use Rattle.yf_grammar.specs.BlockReader.BlockStates.{EndsHere}
use Rattle.yf_grammar.proofs.BlockStack.BlockDedents.{no_line_ends, less_deep_ends, no_item_ends, deeper_line, item_follows, pair_follows}
use Rattle.yf_block.specs.declared.frame.Frame.{Frame}
use Rattle.yf_block.specs.declared.frame.CollectionKind.{CollectionKind}
use Rattle.yf_block.specs.declared.frame.CollectionKind.TheVariants.{Sequence, Mapping}
use Rattle.yf_block.specs.BlockTied.{kind_of, FrameTied}
use Rattle.yf_block.specs.LineFits.{ItemLine, PairLine, DeepLine, EndLine, no_line, less_deep, no_dash}

kinds_differ : Sequence ≡ Mapping → ⊥
kinds_differ e = true≢false (ap is_sequence e) where
  is_sequence : CollectionKind → Bool
  is_sequence Sequence = true
  is_sequence Mapping = false

pub is_sequence_of : (b : Bool) → Sequence ≡ kind_of b → b ≡ true
is_sequence_of true e = refl
is_sequence_of false e = absurd (kinds_differ e)

pub is_mapping_of : (b : Bool) → Mapping ≡ kind_of b → b ≡ false
is_mapping_of true e = absurd (kinds_differ (sym e))
is_mapping_of false e = refl

-- a collection that awaits a `:` is a mapping
sequence_asks_none : (l : Layer) → (asks l.stage ≡ true → l.sequence ≡ false) → l.sequence ≡ true → asks l.stage ≡ false
sequence_asks_none l a s = ⊎_elim (λ (b : asks l.stage ≡ true). absurd (true≢false (sym s ∙ a b))) (λ (b : asks l.stage ≡ false). b) (cases_Bool (asks l.stage))

pub tied_ends : {t : List ℕ} {at : ℕ} {n : ℕ} {l : Layer} {ls : List Layer} {f : Frame} → FrameTied n l ls f → (asks l.stage ≡ true → l.sequence ≡ false) → EndLine t at f
    → EndsHere t at l
tied_ends y a (no_line n) = no_line_ends n
tied_ends {l = l} y a (less_deep {m = m} v d) = less_deep_ends v (subst (λ z. m < z) y.collection.column d)
tied_ends {t} {at} {l = l} y a (no_dash {p = p} k v n) =
    let s = is_sequence_of l.sequence (sym k ∙ y.collection.kind) in
    no_item_ends (subst (λ z. LineText t at z p) y.collection.column v) s (sequence_asks_none l a s) (λ d. n (subst (λ z. DashAt t (at + z)) (sym y.collection.column) d))

pub tied_deeper : {t : List ℕ} {at : ℕ} {n : ℕ} {l : Layer} {ls : List Layer} {f : Frame} → FrameTied n l ls f → DeepLine t at f → DeeperLine t l.column at
tied_deeper y d = deeper_line d.line (subst (λ z. z < d.column) y.collection.column d.deep)

pub tied_item : {t : List ℕ} {at p : ℕ} {n : ℕ} {l : Layer} {ls : List Layer} {f : Frame} → FrameTied n l ls f → ItemLine t at f p → NextEntry t l.sequence l.column at
tied_item {t} {at} {l = l} y i = item_follows (subst (λ z. LineText t at z i.first) y.collection.column i.line) (is_sequence_of l.sequence (sym i.kind ∙ y.collection.kind))
    (subst (λ z. DashAt t z) (i.is_there ∙ ap (λ z. at + z) y.collection.column) i.dash)

pub tied_pair : {t : List ℕ} {at p : ℕ} {n : ℕ} {l : Layer} {ls : List Layer} {f : Frame} → FrameTied n l ls f → PairLine t at f p → NextEntry t l.sequence l.column at
tied_pair {t} {at} {l = l} y i = pair_follows (subst (λ z. LineText t at z i.first) y.collection.column i.line) (is_mapping_of l.sequence (sym i.kind ∙ y.collection.kind))
