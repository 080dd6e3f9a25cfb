-- The lines of the gap that each row of a laid-out text carries, with the comments after the row.
use Rattle.std.proofs.Common.{◌≡◌, ℕ, zero, suc, ◌+◌, ◌≤◌, Bool, true, List, [], ◌∷◌, ◌++◌, drop, length, refl, sym, ap, ◌∙◌, subst, arith, length-append, length-drop, append-nil}
use Rattle.std.proofs.Math.Seq.{drop-append_seam}
use Rattle.std.proofs.lemmas.List.{length-map}
use Rattle.std.specs.Str.{IsUtf8}
use Rattle.yf_chars.specs.Chain.{Chain, Functional}
use Rattle.yf_chars.specs.Chain.Chain.{done, step}
use Rattle.yf_chars.specs.Class.{is_ns_char, is_white}
use Rattle.yf_chars.specs.Text.{code}
use Rattle.yf_chars.proofs.ChainLemmas.{chain_append, chain_forward, chain_meet, Meets, goes_on, falls_short}
use Rattle.yf_lines.specs.Basic.LineStart.{after_break}
use Rattle.yf_lines.specs.Basic.SeparateInLine.{by_whites}
use Rattle.yf_lines.specs.Rest.{Rest}
use Rattle.yf_lines.proofs.RestLemmas.{rest_break, rest_spaces}
use Rattle.yf_comments.specs.Comment.{CommentValue}
use Rattle.yf_comments.specs.Comments.{Blank, BlankBefore, LineRest, Row as CommentRow}
use Rattle.yf_comments.specs.Comments.Blank.{break_ends}
use Rattle.yf_comments.specs.Comments.BreakOrEnd.{by_break}
use Rattle.yf_comments.specs.Comments.LineEnd.{past_rest}
use Rattle.yf_comments.specs.Comments.LineRest.{nothing, comment}
use Rattle.yf_comments.specs.GapLines.{GapLine, blank, remark, gap_then, AreGapLines}
use Rattle.yf_comments.proofs.GapLinesLemmas.{spaces_whites, texts}
use Rattle.yf_comments.proofs.LineEndLemmas.{line_end_rows, lines_rows}
use Rattle.yf_comments.proofs.NoteKnown.{none_after}
use Rattle.yf_comments.proofs.RowLemmas.{row_functional}
use Rattle.yf_block_scalar.specs.Body.{first_noted}
use Rattle.yf_plain.proofs.PlainLemmas.{ns_below}
use Rattle.yf_grammar.proofs.Ends.BlankRuns.{ContentBefore}
use Rattle.yf_stream.proofs.Offsets.BrokenEnds.{Broken, at_break, at_text_end}
use Rattle.yf_stream.proofs.BlankNotes.DerivedNotes.{ns_solid}
use Rattle.yf_laws.specs.Layouts.RowComments.{AreTrails, IsDeco}
use Rattle.yf_laws.specs.Layouts.Decorated.{Deco, end_then, trails_then}
use Rattle.yf_print.specs.Layouts.Rows.{Row}
use Rattle.yf_laws.proofs.ReadAgain.GapsInText.{GapIsAt, gap_over, gap_placed, note_at}
use Rattle.yf_laws.proofs.OutputLines.HeldLemmas.{SeenEnd}
use Rattle.yf_laws.proofs.RowNodes.PlacedRows.{AtRow, EndsRow, LastEnd, OwnTail, after_line, after_scalar, PlacedRow}
use Rattle.yf_laws.proofs.Columns.SourceColumns.{column_break}
use Rattle.yf_laws.proofs.Derived.ClearRows.{place_of_rest as place_of}

-- Chains.

module _ {A : Type 0} {S : ℕ → ℕ → List A → Type 0} where
  still : {i j : ℕ} {z : List A} → Functional S → Chain S i j z → j ≤ i → z ≡ []
  still f done l = refl
  still f (step s c) l = let m = f.forward s in let n = chain_forward f c in absurd (omega (arith, l, m, n))

  -- two chains between two offsets are equal
  pub one_chain : {i j : ℕ} {x y : List A} → Functional S → Chain S i j x → Chain S i j y → x ≡ y
  one_chain {j = j} {x = x} {y = y} f c d = by (chain_meet f c d) where
    by : Meets S j j x y → x ≡ y
    by (goes_on z e is) = let none : z ≡ [] = still f e (omega arith) in let all : y ≡ x = is ∙ (ap (λ w. x ++ w) none ∙ append-nil x) in sym all
    by (falls_short z e is) = let none : z ≡ [] = still f e (omega arith) in is ∙ (ap (λ w. y ++ w) none ∙ append-nil y)

-- The lines after the line of a row.

pub record GapFound (t : List ℕ) (q : ℕ) (gap : List GapLine) (r : List ℕ) : Type 0 where
  pub place : ℕ
  pub comments : List CommentValue
  pub rows : Chain (CommentRow t) q place comments
  pub rest : Rest t place r
  pub is_there : GapIsAt t q gap comments place

no_gap : (gap : List GapLine) (r : List ℕ) → AreGapLines gap → length (gap_then gap r) ≡ 0 → gap ≡ []
no_gap [] r a e = refl
no_gap (blank ∷ gs) r a e = absurd (omega (arith, e))
no_gap (remark zero text ∷ gs) r a e = let some : length (text ++ (10 ∷ gap_then gs r)) ≡ suc (length (a.0.follows ++ (10 ∷ gap_then gs r))) = ap (λ w. length (w ++ (10 ∷ gap_then gs r))) a.0.is in absurd (omega (arith, e, some))
no_gap (remark (suc k) text ∷ gs) r a e = absurd (omega (arith, e))

pub gap_found : {t : List ℕ} (gap : List GapLine) (r : List ℕ) {q : ℕ} → IsUtf8 t → AreGapLines gap → Broken t q → Rest t q (gap_then gap r) → GapFound t q gap r
gap_found gap r u a (at_break b) w =
    let at = gap_placed gap r u a (after_break b) (column_break is_white b) w in
    record { place = at.place; comments = at.comments; rows = lines_rows at.lines; rest = at.rest; is_there = at.is_there }
gap_found {t} gap r {q} u a (at_text_end e) w =
    let long : length (drop q t) ≡ length (gap_then gap r) = ap length w.bytes in
    let none : gap ≡ [] = no_gap gap r a (omega (arith, long, length-drop q t, e)) in
    record { place = q; comments = []; rows = done; rest = subst (λ z. Rest t q (gap_then z r)) none w; is_there = subst (λ z. GapIsAt t q z [] q) (sym none) gap_over }

-- The rest of the row's line.

pub record TrailsEnd (t : List ℕ) (q : ℕ) (xs : List (List ℕ)) (r : List ℕ) : Type 0 where
  pub place : ℕ
  pub notes : List CommentValue
  pub line : LineRest t q place notes
  pub later : q ≤ place
  pub blank : Blank t place
  pub broken : Broken t place
  pub none : BlankBefore t place → ⊥
  pub rest : Rest t place r
  pub is : texts notes ≡ xs

pub trails_end : {t : List ℕ} (xs : List (List ℕ)) (r : List ℕ) {q : ℕ} → IsUtf8 t → AreTrails xs → ContentBefore t q → Rest t q (trails_then xs (10 ∷ r)) → TrailsEnd t q xs r
trails_end {t} [] r {q} u a b s =
    let end = rest_break u s in
    let reads = b.reads in
    let ns : is_ns_char (code t b.at) ≡ true = ap is_ns_char reads.char ∙ b.ns in
    record {
      place = q + 1;
      notes = [];
      line = nothing (by_break end.0);
      later = omega arith;
      blank = break_ends end.0;
      broken = at_break end.0;
      none = none_after b.at u (ns_below (code t b.at) ns) (ns_solid (code t b.at) ns) reads.end end.0;
      rest = end.1;
      is = refl;
    }
trails_end {t} (x ∷ []) r {q} u a b s =
    let spaces = rest_spaces 2 q u s in
    let at = note_at r u a spaces.1 in
    let later = at.later in
    record {
      place = at.place;
      notes = at.note ∷ [];
      line = comment (by_whites (spaces_whites 2 q spaces.0).1 (omega arith)) at.comment (by_break at.break);
      later = omega (arith, later);
      blank = break_ends at.break;
      broken = at_break at.break;
      none = at.none;
      rest = at.rest;
      is = ap (λ z. z ∷ []) at.is;
    }
trails_end (x ∷ y ∷ zs) r u a b s = absurd a

-- What a row carries.

-- equal comments, except for the note of the first
pub data Renoted : List CommentValue → List CommentValue → Type 0 where
  as_they_are : {cs : List CommentValue} → Renoted cs cs
  first_so : {cs : List CommentValue} (b : Bool) → Renoted cs (first_noted b cs)

pub record RowGap (t : List ℕ) (body : List (List ℕ)) (d : Deco) (p : PlacedRow) (own : List CommentValue) (place : ℕ) : Type 0 where
  pub gap : ℕ
  pub comments : List CommentValue
  pub is_there : GapIsAt t gap d.gap comments place
  pub same : Renoted comments (drop (length d.trails) own)
  pub blank : Blank t gap
  pub from : p.upto ≤ gap
  pub none : body ≡ [] → BlankBefore t gap → ⊥
  pub last : (body ≡ [] → ⊥) → LastEnd p.leaves gap

-- comments that trail and others
others : {own : List CommentValue} (xs : List (List ℕ)) (near far : List CommentValue) → texts near ≡ xs → own ≡ near ++ far → drop (length xs) own ≡ far
others {own} xs near far e is =
    let long : length xs ≡ length near = ap length (sym e) ∙ length-map near (λ (c : CommentValue). c.text) in
    ap (λ n. drop n own) long ∙ (ap (λ w. drop (length near) w) is ∙ drop-append_seam near far)

pub row_gap : {t : List ℕ} {x : Row} {d : Deco} {p : PlacedRow} {own : List CommentValue} {i place : ℕ} {z : List ℕ} → IsUtf8 t → IsDeco d → AtRow x i p → EndsRow t x.body d p own place → SeenEnd t (end_then d x.body z)
    → Rest t i (x.text ++ end_then d x.body z) → Rest t place z → RowGap t x.body d p own place
row_gap {t} {x} {d} {p} {own} {i} {place} {z} u deco at ends seen begin w = by ends.tail where
  by : OwnTail t x.body d p own place → RowGap t x.body d p own place
  by (after_line bare line leaves) =
      let end : Rest t seen.at (trails_then d.trails (10 ∷ gap_then d.gap z)) = subst (λ b. Rest t seen.at (end_then d b z)) bare seen.rest in
      let trail = trails_end d.trails (gap_then d.gap z) u deco.trails seen.follows end in
      let gap = gap_found d.gap z u deco.gap trail.broken trail.rest in
      let size : p.upto ≡ i + length x.text = at.size bare in
      let long : length (drop i t) ≡ length (x.text ++ end_then d x.body z) = ap length begin.bytes in
      let left : length (drop seen.at t) ≡ length (end_then d x.body z) = ap length seen.rest.bytes in
      let same : p.upto ≡ seen.at =
      omega (arith, size, long, left, length-append x.text (end_then d x.body z), length-drop i t, length-drop seen.at t, begin.boundary.0, seen.rest.boundary.0) in
      let later = trail.later in
      let place_is : gap.place ≡ place = place_of gap.rest w in
      let built : Chain (CommentRow t) seen.at place (trail.notes ++ gap.comments) =
      subst (λ k. Chain (CommentRow t) seen.at k (trail.notes ++ gap.comments)) place_is (chain_append (subst (λ y. Chain (CommentRow t) seen.at trail.place y) (append-nil trail.notes) (line_end_rows (past_rest trail.line done))) gap.rows) in
      let all : own ≡ trail.notes ++ gap.comments = one_chain row_functional (subst (λ k. Chain (CommentRow t) k place own) same (line_end_rows line)) built in
      record {
        gap = trail.place;
        comments = gap.comments;
        is_there = subst (λ k. GapIsAt t trail.place d.gap gap.comments k) place_is gap.is_there;
        same = subst (λ y. Renoted gap.comments y) (sym (others d.trails trail.notes gap.comments trail.is all)) as_they_are;
        blank = trail.blank;
        from = omega (arith, same, later);
        none = λ e. trail.none;
        last = λ n. absurd (n bare);
      }
  by (after_scalar {near = near} {far = far} {e = e} {z = y} b some is trail h line l m leaves last clear broken rest ended rows) =
      let gap = gap_found d.gap y u deco.gap broken rest in
      let place_is : gap.place ≡ place = place_of gap.rest ended in
      let all : far ≡ gap.comments = one_chain row_functional rows (subst (λ k. Chain (CommentRow t) e k gap.comments) place_is gap.rows) in
      record {
        gap = e;
        comments = gap.comments;
        is_there = subst (λ k. GapIsAt t e d.gap gap.comments k) place_is gap.is_there;
        same = subst (λ v. Renoted gap.comments v) (sym (others d.trails near (first_noted b far) trail is)) (subst (λ v. Renoted gap.comments (first_noted b v)) (sym all) (first_so b));
        blank = clear;
        from = m;
        none = λ q. absurd (some q);
        last = λ n. last;
      }
