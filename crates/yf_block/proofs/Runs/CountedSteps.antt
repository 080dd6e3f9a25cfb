-- The openers ahead while block collections are read.
use Rattle.std.proofs.Common.{◌≡◌, ℕ, max, ◌+◌, ◌<◌, ◌≤◌, List, [], ◌∷◌, ◌++◌, length, Option, Some, None, inl, inr, sym, ap, subst, arith}
use Rattle.std.proofs.lemmas.List.{length-append}
use Rattle.std.specs.Str.{IsUtf8}
use Rattle.yf_grammar.specs.BlockReader.BlockParser.{DashAt, SignAt}
use Rattle.yf_flow.specs.Depth.{openers_from}
use Rattle.yf_flow.proofs.Stack.CountLemmas.{openers_later, dash_opens, question_opens, colon_opens}
use Rattle.yf_block.specs.declared.frame.Frame.{Frame}
use Rattle.yf_block.specs.declared.frame.Step.{Step}
use Rattle.yf_block.specs.declared.frame.Step.TheVariants.{Node}
use Rattle.yf_block.specs.declared.properties.PlacedProperties.{PlacedProperties}
use Rattle.yf_block.specs.Counted.{StepCounted, EntryCounted}
use Rattle.yf_block.specs.InlineTied.{EntrySignAt}
use Rattle.yf_block.specs.Machine.{PropertiesTo, PropertiesBefore, earliest_end}

module _ (t : List ℕ) (count total : ℕ) where
  -- further on
  pub later : (i j : ℕ) → i ≤ j → count + openers_from t i ≤ total → count + openers_from t j ≤ total
  later i j l q = let o = openers_later t i j l in omega arith

  -- a sign has been passed
  pub dash_passed : (i : ℕ) → IsUtf8 t → DashAt t i → count + openers_from t i ≤ total → count + 1 + openers_from t (i + 1) ≤ total
  dash_passed i u d q = let o = dash_opens i u d.dash in omega arith

  pub colon_passed : (i j : ℕ) → IsUtf8 t → SignAt t 58 j → i ≤ j → count + openers_from t i ≤ total → count + 1 + openers_from t (j + 1) ≤ total
  colon_passed i j u s l q = let o = openers_later t i j l in let k = colon_opens j u s.sign_is_at in omega arith

  pub sign_passed : (i : ℕ) → IsUtf8 t → EntrySignAt t i → count + openers_from t i ≤ total → count + 1 + openers_from t (i + 1) ≤ total
  sign_passed i u (inl s) q = let k = question_opens i u s.sign_is_at in omega arith
  sign_passed i u (inr s) q = let k = colon_opens i u s.sign_is_at in omega arith

  -- a sign has been passed, and no further collection may be opened
  pub dash_full : (limit i : ℕ) → IsUtf8 t → DashAt t i → limit ≤ count → count + openers_from t i ≤ total → limit < total
  dash_full limit i u d l q = let o = dash_passed i u d q in omega arith

  pub sign_full : (limit i : ℕ) → IsUtf8 t → EntrySignAt t i → limit ≤ count → count + openers_from t i ≤ total → limit < total
  sign_full limit i u d l q = let o = sign_passed i u d q in omega arith

  pub colon_full : (limit i j : ℕ) → IsUtf8 t → SignAt t 58 j → i ≤ j → limit ≤ count → count + openers_from t i ≤ total → limit < total
  colon_full limit i j u s o l q = let k = colon_passed i j u s o q in omega arith

  -- an entry of a collection that is open, or of one that is opened with it
  pub later_counted : (i : ℕ) → count + 1 + openers_from t i ≤ total → EntryCounted t total count i
  later_counted i q = record { signed = λ s. omega arith; keyed = λ n. q }

  pub first_counted : (i : ℕ) → EntrySignAt t i → count + openers_from t i ≤ total → EntryCounted t total count i
  first_counted i s q = record { signed = λ _. q; keyed = λ n. absurd (n s) }

-- the step that comes next
pub node_counted : (t : List ℕ) (limit total p count : ℕ) (s : Step) → s ≡ Node p → count + openers_from t p ≤ total → StepCounted t limit total count s
node_counted t limit total p count s e q = subst (λ z. StepCounted t limit total count z) (sym e) q

pub pushed_counted : (t : List ℕ) (limit total p : ℕ) (s : Step) (new old : List Frame) (f : Frame) → s ≡ Node p → new ≡ old ++ f ∷ [] → length old + 1 + openers_from t p ≤ total
    → StepCounted t limit total (length new) s
pushed_counted t limit total p s new old f e k q =
    subst (λ z. StepCounted t limit total (length new) z) (sym e) (let n = length-append old (f ∷ []) in let m = ap (λ z. length z) k in omega arith)

-- in a collection with its frame on the stack
pub within_counted : (t : List ℕ) (total i j : ℕ) (new old : List Frame) (f : Frame) → new ≡ old ++ f ∷ [] → j ≡ i → length old + 1 + openers_from t i ≤ total → length new + openers_from t j ≤ total
within_counted t total i j new old f k e q = subst (λ (z : ℕ). length new + openers_from t z ≤ total) (sym e) (let n = length-append old (f ∷ []) in let m = ap (λ z. length z) k in omega arith)

-- the text after properties is after their start
pub held_later : (t : List ℕ) (start at : ℕ) (inner : Option PlacedProperties) → PropertiesTo t start at inner → start < earliest_end at inner
held_later t start at None e = omega arith
held_later t start at (Some h) q = let l = q.0.order in omega arith

pub held_below : (t : List ℕ) (start at : ℕ) (inner : Option PlacedProperties) → PropertiesBefore t at inner → start < earliest_end at inner → start ≤ at
held_below t start at None b l = omega arith
held_below t start at (Some h) b l = let k = b.1 in omega arith

pub held_after : (t : List ℕ) (start at : ℕ) (inner : Option PlacedProperties) → PropertiesTo t start at inner → start ≤ at
held_after t start at None e = omega arith
held_after t start at (Some h) q = let l = q.0.order in let k = q.1 in omega arith

-- a collection has been taken off the stack
pub popped_counted : (t : List ℕ) (total few many i j : ℕ) → few < many → i ≤ j → many + openers_from t i ≤ total → few + 1 + openers_from t j ≤ total
popped_counted t total few many i j k l q = let o = openers_later t i j l in omega arith

pub outer_counted : (t : List ℕ) (total few many i j : ℕ) → few < many → i ≤ j → many + openers_from t i ≤ total → few + openers_from t j ≤ total
outer_counted t total few many i j k l q = let o = openers_later t i j l in omega arith

pub fewer_left : (all rest : List Frame) (f : Frame) (n : ℕ) → all ≡ rest ++ f ∷ [] → length all ≤ n → length rest < n
fewer_left all rest f n e l = let k = length-append rest (f ∷ []) in let m = ap (λ z. length z) e in omega arith

-- a key before its `:`, if no further collection may be opened
pub key_full : (t : List ℕ) (limit total count deepest i j k : ℕ) → IsUtf8 t → SignAt t 58 k → i ≤ k → j ≤ k → deepest + openers_from t j ≤ total → count + openers_from t i ≤ total
    → limit ≤ max deepest count → limit < total
key_full t limit total count deepest i j k u s l m z q f =
    let a = openers_later t i k l in
    let b = openers_later t j k m in
    let o = colon_opens k u s.sign_is_at in
    omega arith
