-- Each line of a layout is a blank one between rows, one that ends visibly, or one of the lines of a block scalar of
-- the reading.
use Rattle.std.proofs.Common.{◌≡◌, ◌≢◌, ℕ, zero, suc, ◌+◌, ◌-◌, ◌<◌, false, List, [], ◌∷◌, ◌++◌, drop, Option, Some, sym, ap, ◌∙◌, arith}
use Rattle.std.proofs.lemmas.List.{drop-drop}
use Rattle.std.specs.Prelude.{slice_get}
use Rattle.yf_chars.specs.Class.{is_white}
use Rattle.yf_chars.specs.Text.{code}
use Rattle.yf_lines.specs.Basic.{ForbiddenLine}
use Rattle.yf_lines.specs.declared.line.Line.{Line}
use Rattle.yf_events.specs.Event.{EventValue, EventInText}
use Rattle.yf_events.specs.declared.event.Span.{Span}
use Rattle.yf_laws.proofs.OutputLines.HeldLemmas.{Holds, ScalarAt}
use Rattle.yf_laws.proofs.OutputLines.LaidLines.{LinesAre}

-- Lines with a property of each, by its index.

pub data Lined (P : ℕ → Line → List ℕ → Type 0) : ℕ → List Line → List (List ℕ) → Type 0 where
  lined_end : {k : ℕ} → Lined P k [] []
  lined_more : {k : ℕ} {l : Line} {ls : List Line} {x : List ℕ} {xs : List (List ℕ)} → P k l x → Lined P (suc k) ls xs → Lined P k (l ∷ ls) (x ∷ xs)

-- a line of the scalar: the line with that number among its lines, the first of which has this index and begins at the
-- start of the scalar's lines
pub record InScalar (t : List ℕ) (es : List EventInText) (all : List Line) (k : ℕ) (x : List ℕ) : Type 0 where
  pub event : EventValue
  pub part : Option Span
  pub among : Holds event part es
  pub column : ℕ
  pub body : List (List ℕ)
  pub follows : List ℕ
  pub scalar : ScalarAt t event part column body follows
  pub head : ℕ
  pub number : ℕ
  pub index : k ≡ head + number
  pub nth : slice_get body number ≡ Some x
  pub lines : List Line
  pub from : drop head all ≡ lines
  pub texts : List (List ℕ)
  pub are : LinesAre t lines (body ++ texts)
  pub line : Line
  pub others : List Line
  pub some : lines ≡ line ∷ others
  pub start : line.start ≡ scalar.place

-- a line that isn't a blank one between rows
pub data Solid (t : List ℕ) (es : List EventInText) (all : List Line) (k : ℕ) (l : Line) : Type 0 where
  solid_seen : is_white (code t (l.end - 1)) ≡ false → l.start < l.end → Solid t es all k l
  solid_scalar : {x : List ℕ} → InScalar t es all k x → Solid t es all k l

-- the line before the one at the index, after which a blank line is allowed
pub record LineBefore (t : List ℕ) (es : List EventInText) (all : List Line) (k : ℕ) : Type 0 where
  pub index : ℕ
  pub next : k ≡ suc index
  pub line : Line
  pub at : slice_get all index ≡ Some line
  pub solid : Solid t es all index line
  pub undashed : ForbiddenLine t line.start → code t line.start ≡ 45 → ⊥

-- the line at the index, before which a blank line is allowed
pub record LineAfter (t : List ℕ) (all : List Line) (k : ℕ) : Type 0 where
  pub line : Line
  pub at : slice_get all k ≡ Some line
  pub seen : is_white (code t (line.end - 1)) ≡ false
  pub some : line.start < line.end
  pub unmarked : ForbiddenLine t line.start → ⊥
  pub no_percent : code t line.start ≢ 37

pub data Sort (t : List ℕ) (es : List EventInText) (all : List Line) (k : ℕ) (l : Line) (x : List ℕ) : Type 0 where
  between_rows : x ≡ [] → LineBefore t es all k → LineAfter t all (suc k) → Sort t es all k l x
  ends_seen : is_white (code t (l.end - 1)) ≡ false → l.start < l.end → Sort t es all k l x
  in_scalar : InScalar t es all k x → Sort t es all k l x

-- Lists and bytes.

pub no_line : (k : ℕ) (l : Line) (ls : List Line) → drop k [] ≡ l ∷ ls → ⊥
no_line zero l ls e = cc
no_line (suc k) l ls e = cc

pub got_here : (k : ℕ) (all : List Line) (l : Line) (ls : List Line) → drop k all ≡ l ∷ ls → slice_get all k ≡ Some l
got_here k [] l ls e = absurd (no_line k l ls e)
got_here zero (m ∷ all) l ls e = cc
got_here (suc k) (m ∷ all) l ls e = got_here k all l ls e

pub got_drop : (h n : ℕ) (all : List Line) → slice_get (drop h all) n ≡ slice_get all (h + n)
got_drop zero n all = let e : n ≡ 0 + n = omega arith in ap (λ k. slice_get all k) e
got_drop (suc h) n [] = let e : suc (h + n) ≡ suc h + n = omega arith in let none : List Line = [] in ap (λ k. slice_get none k) e
got_drop (suc h) n (l ∷ all) = let e : suc (h + n) ≡ suc h + n = omega arith in got_drop h n all ∙ ap (λ k. slice_get (l ∷ all) k) e

pub drop_more : (k : ℕ) (all : List Line) (l : Line) (ls : List Line) → drop k all ≡ l ∷ ls → drop (suc k) all ≡ ls
drop_more k [] l ls e = absurd (no_line k l ls e)
drop_more zero (m ∷ all) l ls e = tail_of e where
  tail_of : {m l : Line} {all ls : List Line} → m ∷ all ≡ l ∷ ls → all ≡ ls
  tail_of e = cc
drop_more (suc k) (m ∷ all) l ls e = drop_more k all l ls e

pub drop_twice : (k n : ℕ) (all ls ms : List Line) → drop k all ≡ ls → drop n ls ≡ ms → drop (k + n) all ≡ ms
drop_twice k n all ls ms e f = sym (drop-drop n k all) ∙ (ap (drop n) e ∙ f)
