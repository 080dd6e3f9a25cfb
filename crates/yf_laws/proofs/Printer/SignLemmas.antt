-- A row with a sign is printed before a node; a leaf adds a row with its text.
use Rattle.std.proofs.Common.{◌≡◌, ℕ, Bool, false, List, [], ◌∷◌, ◌++◌, Option, Some, None, refl, sym, ap, ◌∙◌, append-nil}
use Rattle.std.specs.Prelude.{codes, option_to_list}
use Rattle.yf_events.specs.Tree.{Node, entry_start, standing, starts_of_entry}
use Rattle.yf_events.specs.declared.event.Entry.{Entry}
use Rattle.yf_events.specs.declared.event.Span.{Span}
use Rattle.yf_print.specs.Passes.Drafts.{Draft, LineMarks, opened, start_marked, with_start, with_text}
use Rattle.yf_print.specs.Passes.PrintPass.{colon_past, next_line, with_colon}
use Rattle.yf_print.specs.Passes.PrintWork.{Work, remarks_of}
use Rattle.yf_print.specs.Layouts.Rows.{Row, colon_offset, colon_row, plain_row, start_of}
use Rattle.yf_laws.proofs.Printer.FedLemmas.{all_past, fed, with_row}
use Rattle.yf_laws.proofs.Printer.JoinLemmas.{edited, head_is, past_edited}

-- a text with items on its line
abbrev sign_row : ℕ → List ℕ → List ℕ → Bool → Row
sign_row column text items blank = record (plain_row column text) { items = items; blank_before = blank }

pub sign_added : (g : Work) (t : Span → List ℕ) (column : ℕ) (text items : List ℕ) (blank : Bool) (d : Draft)
    → with_row (remarks_of g) t (sign_row column text items blank) d ≡ with_text text (all_past g.reading.comments items d)
sign_added g t column text items blank d =
    head_is (remarks_of g) t (sign_row column text items blank) d (record { key = refl; body = refl; ending = refl })
    ∙ (ap (λ w. edited (d.line ++ text) w d.body d.may_follow d.marks (all_past g.reading.comments items d)) (append-nil d.trails)
    ∙ sym (ap (with_text text) (past_edited g.reading.comments items d.line d.trails d.body d.may_follow d.marks d)))

colon_added : (g : Work) (t : Span → List ℕ) (column : ℕ) (k : Node) (d : Draft)
    → with_row (remarks_of g) t (colon_row column k) d
    ≡ with_text (codes ":") (all_past g.reading.comments (colon_offset (standing k).entry) (with_start (remarks_of g) (start_of column false (entry_start k)) d))
colon_added g t column k d =
    let m : LineMarks = start_marked (remarks_of g) (start_of column false (entry_start k)) d.marks in
    let items : List ℕ = colon_offset (standing k).entry in
    head_is (remarks_of g) t (colon_row column k) d (record { key = refl; body = refl; ending = refl })
    ∙ (ap (λ w. edited (d.line ++ codes ":") w d.body d.may_follow m (all_past g.reading.comments items d)) (append-nil d.trails)
    ∙ sym (ap (with_text (codes ":")) (past_edited g.reading.comments items d.line d.trails d.body d.may_follow m d)))

-- the line of the `:` of a key with `?`
pub colon_fed : (g : Work) (t : Span → List ℕ) (column : ℕ) (k : Node) (d : Draft)
    → with_colon g column (standing k).entry d ≡ fed (remarks_of g) t (colon_row column k ∷ []) d
colon_fed g t column k d = by (standing k).entry ∙ sym (colon_added g t column k (opened (remarks_of g) column d)) where
  of_entry : (e : Entry) (o : Option ℕ)
      → with_text (codes ":") (colon_past g o (with_start (remarks_of g) (start_of column false (e.start ∷ [])) (next_line g column d)))
      ≡ with_text (codes ":") (all_past g.reading.comments (option_to_list o) (with_start (remarks_of g) (start_of column false (e.start ∷ [])) (opened (remarks_of g) column d)))
  of_entry e None = refl
  of_entry e (Some offset) = refl

  by : (e : Option Entry) → with_colon g column e d
      ≡ with_text (codes ":") (all_past g.reading.comments (colon_offset e) (with_start (remarks_of g) (start_of column false (starts_of_entry e)) (opened (remarks_of g) column d)))
  by None = refl
  by (Some e) = of_entry e e.colon
