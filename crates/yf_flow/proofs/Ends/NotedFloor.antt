-- Notes of entries that begin after a visible character don't depend on whether a block scalar ended before that
-- character.
use Rattle.std.proofs.Common.{◌≡◌, ◌≢◌, ℕ, ◌+◌, ◌<◌, ◌≤◌, Bool, true, false, not, ◌&&◌, ◌||◌, ◌==◌, true≢false, List, ◌∷◌, Some, sym, ap, ◌∙◌, subst, arith, ⊎_elim}
use Rattle.std.proofs.lemmas.Bool.{cases_lt, cases_eq}
use Rattle.std.specs.Str.{IsUtf8}
use Rattle.yf_chars.specs.Signs.{BYTE_ORDER_MARK}
use Rattle.yf_chars.specs.Class.{is_printable, is_nb_char, is_ns_char, is_white, is_break_char}
use Rattle.yf_chars.specs.Text.{code, no_char}
use Rattle.yf_chars.proofs.TextLemmas.{reads_real}
use Rattle.yf_lines.specs.Basic.{Break}
use Rattle.yf_lines.specs.Basic.Break.{cr_lf, lone_cr, lone_lf}
use Rattle.yf_lines.proofs.ClearLemmas.{code_inside}
use Rattle.yf_comments.specs.Comments.{is_gap}
use Rattle.yf_comments.proofs.BlankLemmas.{gap_below, gap_of_lf}
use Rattle.yf_events.specs.Event.{EventInText}
use Rattle.yf_events.specs.declared.event.Entry.{Entry}
use Rattle.yf_grammar.specs.Productions.ReadParts.{BlankSince, NotedSince, Noting, floor_after_event}
use Rattle.yf_grammar.specs.Productions.ReadParts.BlankSince.{blank_line, past_gap}
use Rattle.yf_grammar.specs.Productions.ReadParts.NotedSince.{noted, not_noted}
use Rattle.yf_grammar.specs.Productions.ReadParts.Noting.{no_event, without_entry, with_entry}
use Rattle.yf_grammar.proofs.Ends.GapLemmas.{Visible}
use Rattle.yf_plain.proofs.PlainLemmas.{ns_below}
use Rattle.yf_flow.specs.StackMeaning.{NoteOf, entryless, entry_noted, NotesFilled, no_events, event_before}
use Rattle.yf_flow.proofs.Content.EntriesFrom.{EntriesFrom, one_from}
use Rattle.yf_flow.proofs.Ends.NotedLemmas.{floor_same}

-- a visible character is not part of a gap
ns_gap : (p w b m : Bool) → (p && (not b && not m)) && not w ≡ true → w || b || m ≡ true → ⊥
ns_gap false w b m e g = true≢false (sym e)
ns_gap true w true m e g = true≢false (sym e)
ns_gap true w false true e g = true≢false (sym e)
ns_gap true true false false e g = true≢false (sym e)
ns_gap true false false false e g = true≢false (sym g)

visible_no_gap : {t : List ℕ} {i : ℕ} → Visible t i → is_gap (code t i) ≡ true → ⊥
unfolding is_ns_char is_nb_char is_gap
visible_no_gap {t} {i} v g = ns_gap (is_printable (code t i)) (is_white (code t i)) (is_break_char (code t i)) (code t i == BYTE_ORDER_MARK) v.ns g

visible_somewhere : {t : List ℕ} {i : ℕ} → Visible t i → code t i ≡ no_char → ⊥
visible_somewhere {t} {i} v e = let l = ns_below (code t i) v.ns in omega arith

break_inside : {t : List ℕ} {h i j : ℕ} → Break t h j → h < i → i < j → code t i ≡ 10
break_inside {t} (cr_lf {i = h} a b) l m = let e : h + 1 ≡ _ = omega arith in ap (code t) (sym e) ∙ b
break_inside (lone_cr a b) l m = absurd (omega arith)
break_inside (lone_lf a b) l m = absurd (omega arith)

module _ {t : List ℕ} (u : IsUtf8 t) {i : ℕ} (v : Visible t i) {floor : ℕ} (f : floor ≤ i) where
  since_later : {j : ℕ} → BlankSince t 0 j → i < j → BlankSince t floor j
  since_later (blank_line {i = h} l b k) m = ⊎_elim
      (λ (s : h < i). absurd (visible_no_gap v (gap_of_lf (code t i) (break_inside k s m))))
      (λ (s : i ≤ h). blank_line (omega arith) b k)
      (cases_lt h i)
  since_later (past_gap {i = h} b e) m = ⊎_elim
      (λ (s : i < h). past_gap (since_later b s) e)
      (λ (s : h ≤ i). ⊎_elim
      (λ (q : h ≡ i). absurd (visible_no_gap v (subst (λ k. is_gap (code t k) ≡ true) q e)))
      (λ (q : h ≢ i). absurd (visible_somewhere v (code_inside u (reads_real t h u (gap_below (code t h) e)) (omega arith) m)))
      (cases_eq h i))
      (cases_lt i h)

  since_earlier : {j : ℕ} → BlankSince t floor j → BlankSince t 0 j
  since_earlier (blank_line l b k) = blank_line (omega arith) b k
  since_earlier (past_gap b e) = past_gap (since_earlier b) e

  noted_later : {j : ℕ} {b : Bool} → i < j → NotedSince t 0 j b → NotedSince t floor j b
  noted_later m (noted b) = noted (since_later b m)
  noted_later m (not_noted n) = not_noted (λ b. n (since_earlier b))

  note_later : {e g : EventInText} {x y : List EventInText} → NoteOf t e g → ((z : Entry) → e.entry ≡ Some z → i + 1 ≤ z.start) → Noting t (floor_after_event floor e e.event) x y → Noting t floor (e ∷ x) (g ∷ y)
  note_later (entryless q) l r = without_entry q r
  note_later (entry_noted z q n) l r = with_entry z q (noted_later (let m = l z q in omega arith) n) r

  pub noting_later : {x y : List EventInText} → EntriesFrom (i + 1) x → NotesFilled t 0 x y → Noting t floor x y
  noting_later e no_events = no_event
  noting_later (one_from l r) (event_before {e = e} {x = x} {y = y} n s) =
      note_later n.note l (subst (λ z. Noting t z x y) (sym (floor_same floor e e.event n.no_lines)) (noting_later r s))
