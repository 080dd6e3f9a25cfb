-- Whether `...` is written after a document, and the notes of a reading on this.
use Rattle.std.proofs.Common.{◌≡◌, ◌≢◌, ℕ, ◌+◌, ◌<◌, ◌⊎◌, ⊎_elim, Bool, true, false, List, [], ◌∷◌, length, Option, refl, sym, ap, ◌∙◌, subst, arith}
use Rattle.std.specs.Str.{IsUtf8}
use Rattle.yf_chars.specs.Text.{code, no_char}
use Rattle.yf_chars.specs.Class.{is_ns_char, is_nb_char, is_printable, is_between, is_break_char, is_white, is_white_or_end}
use Rattle.yf_chars.specs.Chain.{Chain, Stuck}
use Rattle.yf_chars.specs.Chain.Chain.{done, step}
use Rattle.yf_chars.proofs.ChainLemmas.{Meets, chain_append, chain_meet, stuck_unique}
use Rattle.yf_chars.proofs.ChainLemmas.Meets.{goes_on, falls_short}
use Rattle.yf_lines.specs.Basic.{ForbiddenLine, LineStart, is_three}
use Rattle.yf_lines.proofs.BasicLemmas.{marker_of_dots, three_first}
use Rattle.yf_lines.proofs.MarkLemmas.{three_code}
use Rattle.yf_comments.specs.Comment.{CommentValue}
use Rattle.yf_comments.specs.Comments.{LineEnd}
use Rattle.yf_comments.specs.Comments.LineEnd.{past_rest, from_start}
use Rattle.yf_comments.proofs.LineEndLemmas.{line_end_rows, row_stuck_end}
use Rattle.yf_comments.proofs.RowLemmas.{end_code}
use Rattle.yf_block_scalar.proofs.HeaderLemmas.{rest_stop}
use Rattle.yf_events.specs.Event.{EventInText}
use Rattle.yf_grammar.specs.Productions.Meaning.{Meaning}
use Rattle.yf_grammar.proofs.BlockOutcomes.BlockEnds.{LineOrEnd}
use Rattle.yf_grammar.proofs.Ends.BlankRuns.{after_byte, no_start_past}
use Rattle.yf_grammar.proofs.Ends.GapLemmas.{end_next}
use Rattle.yf_stream.specs.DocumentReaders.{PrefixRow}
use Rattle.yf_stream.specs.ReadingOf.{DocumentEvents, no_document, one_document}
use Rattle.yf_stream.specs.Stream.{AnyDocument, Document, EndIsMarked, ExplicitNode}
use Rattle.yf_stream.specs.Stream.EndIsMarked.{marked_end, unmarked_end}
use Rattle.yf_stream.specs.Stream.ExplicitNode.{marked_node, marked_nothing}
use Rattle.yf_stream.proofs.HasReading.{document_finish}
use Rattle.yf_stream.proofs.Reader.PrefixLemmas.{prefix_functional, prefixes_rows, rows_parts, rows_prefix, still}
use Rattle.yf_stream.proofs.Uniqueness.OneDirective.{dash_still, dot_still}
use Rattle.yf_stream.proofs.Uniqueness.StreamPath.{three_last}
use Rattle.yf_standard.specs.Characters.{x}
use Rattle.yf_standard.proofs.Closed.{closed}

-- what follows comment lines and byte order marks: a `...` at the start of a line, or something else
pub data Stop (t : List ℕ) (k : ℕ) : Bool → Type 0 where
  at_dots : {p : ℕ} {cs : List CommentValue} → ForbiddenLine t p → code t p ≡ 46 → Chain (PrefixRow t) k p cs
      → Stop t k true
  elsewhere : {p : ℕ} {cs : List CommentValue} → code t p ≢ 46 → Stuck (PrefixRow t p) → Chain (PrefixRow t) k p cs
      → Stop t k false

no_further : {A : Type 0} {S : ℕ → ℕ → List A → Type 0} {j k : ℕ} {z : List A} → Stuck (S j) → Chain S j k z → j ≡ k
no_further stuck done = refl
no_further stuck (step {h = h} {x = x} s c) = absurd (stuck.none h x s)

module _ {t : List ℕ} where
  pub stop_before : {i k : ℕ} {b : Bool} {cs : List CommentValue} → Chain (PrefixRow t) i k cs → Stop t k b → Stop t i b
  stop_before c (at_dots f e d) = at_dots f e (chain_append c d)
  stop_before c (elsewhere n s d) = elsewhere n s (chain_append c d)

  stuck_at_dot : {p : ℕ} → code t p ≡ 46 → Stuck (PrefixRow t p)
  stuck_at_dot e = still (λ b. absurd (omega arith)) (dot_still e)

  -- the note on a document's end says the same
  same_note : {i j : ℕ} {a b : Bool} {cs : List CommentValue} → LineEnd t i j cs → EndIsMarked t j a → Stop t i b
      → a ≡ b
  same_note l (marked_end p f e) (at_dots g d c) = refl
  same_note l (marked_end p f e) (elsewhere n s c) =
      let whole = chain_append (rows_prefix (line_end_rows l)) (prefixes_rows p) in
      let same = (stuck_unique prefix_functional whole (stuck_at_dot e) c s).0 in
      absurd (n (ap (code t) (sym same) ∙ e))
  same_note {j = j} l (unmarked_end n) (at_dots {p = p} g d c) =
      absurd (go (chain_meet prefix_functional (rows_prefix (line_end_rows l)) c)) where
        go : {cs ds : List CommentValue} → Meets (PrefixRow t) j p cs ds → ⊥
        go (goes_on z r e) = n p z (rows_parts (end_next l) r) g d
        go (falls_short z r e) =
            let same : p ≡ j = no_further (stuck_at_dot d) r in
            n j [] done (subst (λ w. ForbiddenLine t w) same g) (ap (code t) (sym same) ∙ d)
  same_note l (unmarked_end n) (elsewhere m s c) = refl

  line_of : {k : ℕ} → LineOrEnd t k → code t k < no_char → LineStart t k
  line_of {k} l n =
      ⊎_elim (λ (s : LineStart t k). s) (λ (e : k ≡ length t). let f = end_code t e in absurd (omega arith)) l

  line_end_white : {q j : ℕ} {x : List CommentValue} → (LineStart t q → ⊥) → LineEnd t q j x
      → is_white_or_end (code t q) ≡ true
  line_end_white n (past_rest r c) = rest_stop n r
  line_end_white n (from_start s c) = absurd (n s)

visible_dot : is_ns_char 46 ≡ true
unfolding is_ns_char is_nb_char is_printable is_between is_break_char is_white
visible_dot = refl

module _ {t : List ℕ} (u : IsUtf8 t) where
  no_start_after : (k : ℕ) → is_three t k 46 ≡ true → LineStart t (k + 3) → ⊥
  no_start_after k e s =
      let same : k + 3 ≡ k + 2 + 1 = omega arith in
      no_start_past u (after_byte (k + 2) u (three_last t k 46 e) (omega arith) visible_dot)
      (subst (λ w. LineStart t w) same s)

  pub dots_here : {k j : ℕ} {x : List CommentValue} → LineOrEnd t k → is_three t k 46 ≡ true → LineEnd t (k + 3) j x
      → Stop t k true
  dots_here {k} l e d =
      let c = three_code t k 46 e in
      let n = three_first t k 45 (λ q. absurd (omega arith)) in
      let ends = marker_of_dots t k n e ∙ line_end_white (no_start_after k e) d in
      at_dots (record { start = line_of l (omega arith); marker = ends }) c done

  pub dashes_here : {k j h : ℕ} {m : Meaning} → ExplicitNode t h k j m → Stop t k false
  dashes_here {k} (marked_node e r) =
      let c = three_code t k 45 e in
      elsewhere (λ d. absurd (omega arith)) (still (λ d. absurd (omega arith)) (dash_still c)) done
  dashes_here {k} (marked_nothing e l) =
      let c = three_code t k 45 e in
      elsewhere (λ d. absurd (omega arith)) (still (λ d. absurd (omega arith)) (dash_still c)) done

  pub end_here : {k : ℕ} → k ≡ length t → Stop t k false
  end_here {k} e =
      let c = end_code t e in
      elsewhere (λ d. absurd (omega arith)) (still (λ d. absurd (omega arith)) (row_stuck_end e)) done

  pub after_document : {h i j : ℕ} {b : Bool} {d : Document} {cs : List CommentValue} → AnyDocument t h i j d cs
      → Stop t j b → Stop t d.finish b
  after_document a s =
      let f = document_finish u a in
      stop_before (chain_append (rows_prefix (line_end_rows f.ends.line)) (rows_prefix f.rows)) s

-- the marks of documents
pub data Ended (t : List ℕ) : List Document → List Bool → Type 0 where
  none_ended : Ended t [] []
  one_ended : {d : Document} {ds : List Document} {b : Bool} {bs : List Bool} → Stop t d.finish b → Ended t ds bs
      → Ended t (d ∷ ds) (b ∷ bs)

abbrev pub noted_ends : {t : List ℕ} {ds : List Document} {x : List EventInText} {tags : List (Option (List ℕ))}
    → DocumentEvents t ds x tags → List Bool
noted_ends no_document = []
noted_ends (one_document {closed = closed} g l m r) = closed ∷ noted_ends r

pub same_ends : {t : List ℕ} {ds : List Document} {x : List EventInText} {tags : List (Option (List ℕ))}
    {bs : List Bool} (g : DocumentEvents t ds x tags)
    → Ended t ds bs → noted_ends g ≡ bs
same_ends no_document none_ended = refl
same_ends (one_document {closed = closed} g l m r) (one_ended {b = b} {bs = bs} s e) =
    ap (λ z. z ∷ noted_ends r) (same_note l m s) ∙ ap (λ z. b ∷ z) (same_ends r e)
