-- What trails a row of a laid-out text, when the text is read: the comment that was laid out after the row's text, or
-- none.
use Rattle.std.proofs.Common.{◌≡◌, ℕ, ◌+◌, ◌<◌, ◌≤◌, Bool, true, false, not, ◌&&◌, ◌||◌, List, [], ◌∷◌, ◌++◌, length, map, flat_map, Option, Some, None, refl, sym, ap, ◌∙◌, subst, arith, append_assoc, ⊎_elim, ◌⊎◌, inl, inr}
use Rattle.std.specs.Prelude.{find, nat_le, nat_lt, option_to_list, zip, if◌then◌else◌}
use Rattle.std.specs.List.{list_any}
use Rattle.std.proofs.lemmas.Bool.{and_from, cases_lt}
use Rattle.std.proofs.lemmas.Bool.Decides.{nat_tests}
use Rattle.std.proofs.lemmas.Grind.{flat_map-append}
use Rattle.yf_chars.specs.Chain.{Chain}
use Rattle.yf_chars.specs.Chain.Chain.{done, step}
use Rattle.yf_chars.specs.Text.{code}
use Rattle.yf_chars.proofs.TextLemmas.{within_from_code}
use Rattle.yf_lines.specs.Basic.LineStart.{after_break}
use Rattle.yf_lines.specs.Lines.{AreLines, LineEnd, OneLine}
use Rattle.yf_lines.specs.Lines.LineEnd.{at_break, at_end}
use Rattle.yf_lines.specs.Lines.OneLine.{one_line}
use Rattle.yf_lines.specs.declared.line.Line.{Line}
use Rattle.yf_lines.proofs.ClearLemmas.{Quiet}
use Rattle.yf_comments.specs.Comment.{CommentValue}
use Rattle.yf_comments.specs.GapLines.{remarks_of}
use Rattle.yf_comments.proofs.GapLinesLemmas.{texts}
use Rattle.yf_events.specs.declared.event.Span.{Span}
use Rattle.yf_stream.specs.ReadingOf.{is_on_line, last_leaf, leaf_lines, on_line_of}
use Rattle.yf_stream.proofs.Offsets.BrokenEnds.{Broken}
use Rattle.yf_laws.specs.Layouts.RowComments.{AreTrails, carried_texts}
use Rattle.yf_laws.specs.Layouts.Decorated.{Deco}
use Rattle.yf_laws.specs.Layouts.Layout.{Remark, Source, first_comment, is_among, is_before, next_leaf, trailing, trailing_leaf}
use Rattle.yf_forms.specs.Nodes.Lines.{trimmed}
use Rattle.yf_print.specs.Layouts.Rows.{Row}
use Rattle.yf_laws.proofs.ReadAgain.CarriedAgain.{TrailTied, nothing_trails, first_trails}
use Rattle.yf_laws.proofs.SameReading.CommentsCut.{In, in_first, in_rest, Each, each_more, each_at, each_map, Under, Over}
use Rattle.yf_laws.proofs.SameReading.DocumentsFlow.{note_is, on_line_before}
use Rattle.yf_laws.proofs.SameReading.FoundAgain.{Unsigned, a_start}
use Rattle.yf_laws.proofs.RowNodes.PlacedRows.{Inside, one_inside, PlacedRow, LeavesTo, no_leaf_to, leaf_to}
use Rattle.yf_laws.proofs.RowNodes.QuietPlaces.{Quiet as QuietRow}
use Rattle.yf_laws.proofs.SameReading.RowFlow.{Sub, sub_take, sub_skip, Has, has_first, has_rest, Near, at_leaf, before_leaf, RowTrail, untrailed, trailed_after}
use Rattle.yf_laws.proofs.Trails.RowLeaves.{leaves_on}
use Rattle.yf_laws.proofs.ReadAgain.RowExtents.{InOrBeside, in_leaf, beside_leaf, ClearEnd, RowExtent}
use Rattle.yf_laws.proofs.Trails.RowTrails.{trail_of}
use Rattle.yf_laws.proofs.SameReading.StartsBefore.{AllFrom, none_later, one_later}
use Rattle.yf_laws.proofs.Derived.StepsInText.{starts_of}
use Rattle.yf_laws.proofs.Trails.TrailChoice.{next_after, rising, start_of_first}
use Rattle.yf_laws.proofs.SameReading.UprightRows.{EndsIn, ends_in_none, ends_in, ending_of, last_is}
use Rattle.yf_chars.proofs.Tests.{below, not_below, is_less, none_some, no_nil}
use Rattle.yf_forms.proofs.Measure.OffsetLemmas.{or_true}

-- A row as it is found, and what it carried when it was laid out.
pub record LaidRow (d : Deco) (row : Row) : Type 0 where
  pub keyless : d.trails ≡ [] → row.key_comment ≡ None
  pub bare : row.leaves ≡ [] → row.key_comment ≡ None → d.trails ≡ []
  pub stays : (x : List ℕ) → d.trails ≡ x ∷ [] → trimmed x ≡ x
  pub fits : AreTrails d.trails

-- Lines.

holds_both : (s n end o : ℕ) → s ≤ o → o < n → s < end → end ≤ n → (nat_le s o && nat_lt o n && nat_lt s end && nat_le end n) ≡ true
holds_both s n end o a b c d = grind (arith, nat_tests)

-- two offsets are on one line if no line begins between them
line_holds : {t : List ℕ} {h k : ℕ} {ls : List Line} → Chain (OneLine t) h k ls → k ≡ length t → (from end o : ℕ) → h ≤ from → from < end → end ≤ o → o < length t → Quiet t from o → list_any (is_on_line end o) ls ≡ true
line_holds done e from end o a b c d q = absurd (omega (arith, e, a, b, c, d))
line_holds {t} (step {y = others} (one_line {l = line} s) more) e from end o a b c d q =
    ⊎_elim (λ (z : from < line.next). here z) (λ (z : line.next ≤ from). ap (λ w. is_on_line end o line || w) (line_holds more e from end o z b c d q) ∙ or_true (is_on_line end o line)) (cases_lt from line.next) where
      ended : {h n : ℕ} → LineEnd t h n → from < n → n ≤ o → ⊥
      ended {n = n} (at_break f) z y = q.none n z y (after_break f)
      ended (at_end f) z y = omega (arith, y, f, d)

      here : from < line.next → list_any (is_on_line end o) (line ∷ others) ≡ true
      here z =
          let high : o < line.next = ⊎_elim (λ (y : o < line.next). y) (λ (y : line.next ≤ o). absurd (ended s.ends z y)) (cases_lt o line.next) in
          ap (λ w. w || list_any (is_on_line end o) others) (holds_both line.start line.next end o (omega (arith, a, b, c)) high (omega (arith, a, b)) (omega (arith, c, high)))

-- The first comment of a list.

first_passing : (p g : CommentValue → Bool) (before : List CommentValue) (o : CommentValue) (rest : List CommentValue) → Each (λ b. p b ≡ false) before → p o ≡ true
    → find (λ (q : Remark). p q.0) (zip (before ++ (o ∷ rest)) (map g (before ++ (o ∷ rest)))) ≡ Some (o, g o)
first_passing p g [] o rest a e = ap (λ b. if b then Some (o, g o) else find (λ (q : Remark). p q.0) (zip rest (map g rest))) e
first_passing p g (b ∷ before) o rest (each_more f a) e =
    ap (λ w. if w then Some (b, g b) else find (λ (q : Remark). p q.0) (zip (before ++ (o ∷ rest)) (map g (before ++ (o ∷ rest))))) f ∙ first_passing p g before o rest a e

right_nothing : (xs ys : List CommentValue) → xs ++ ys ≡ [] → ys ≡ []
right_nothing [] ys e = e
right_nothing (x ∷ xs) ys e = absurd cc

first_later : (o : ℕ) (post : List Span) → AllFrom (o + 1) (starts_of post) → is_before o (start_of_first post) ≡ true
first_later o [] a = refl
first_later o (s ∷ ss) (one_later l a) = below o s.start (omega (arith, l))

has_to : {n : ℕ} {s : Span} {ss : List Span} → LeavesTo n ss → Has s ss → s.end ≤ n
has_to no_leaf_to h = elim h [ ]
has_to (leaf_to l m a) has_first = m
has_to (leaf_to l m a) (has_rest b) = has_to a b

unsigned_after : {t : List ℕ} (xs : List Span) (s : Span) (ys : List Span) → Unsigned t (starts_of (xs ++ (s ∷ ys))) → code t s.start ≡ 35 → ⊥
unsigned_after [] s ys (a_start n a) e = n e
unsigned_after (x ∷ xs) s ys (a_start n a) e = unsigned_after xs s ys a e

pub in_parts : {e : CommentValue} (xs ys : List CommentValue) → In e (xs ++ ys) → In e xs ⊎ In e ys
in_parts [] ys i = inr i
in_parts (x ∷ xs) ys in_first = inl in_first
in_parts (x ∷ xs) ys (in_rest i) = ⊎_elim (λ z. inl (in_rest z)) (λ z. inr z) (in_parts xs ys i)

pub sub_inside : {a i j : ℕ} {is : List ℕ} → Sub (a ∷ []) is → Inside i j is → (i ≤ a) × (a ≤ j)
sub_inside (sub_take s) (one_inside l m b) = (l, m)
sub_inside (sub_skip s) (one_inside l m b) = sub_inside s b

module _ {t : List ℕ} (lines : List Line) (are_lines : AreLines t lines) (c : Source) (cs : List CommentValue) (remarks : c.remarks ≡ zip cs (leaf_lines lines c.leaves cs))
    (sign : (d : CommentValue) → In d cs → code t d.offset ≡ 35) (up : rising c.leaves ≡ true) (unsigned : Unsigned t (starts_of c.leaves)) where
  abbrev mark : CommentValue → Bool
  mark d = on_line_of lines (last_leaf None d.offset c.leaves) d.offset

  -- a comment that is the first after the row's last leaf, and is in it or on the line on which it ends
  trails_seen : (pre ls : List Span) (s : Span) (post : List Span) (row : Row) (before : List CommentValue) (o : CommentValue) (rest : List CommentValue) → row.leaves ≡ ls ++ (s ∷ []) → c.leaves ≡ (pre ++ ls) ++ (s ∷ post)
      → cs ≡ before ++ (o ∷ rest) → Each (λ b. b.offset ≤ s.start) before → s.start < o.offset → AllFrom (o.offset + 1) (starts_of post) → (nat_lt o.offset s.end || mark o) ≡ true → is_among c.key_comments o ≡ false
      → trailing c row ≡ [] → ⊥
  trails_seen pre ls s post row before o rest e apart are early after later test key none =
      let all : List CommentValue = before ++ (o ∷ rest) in
      let next : next_leaf c.leaves s.start ≡ start_of_first post = ap (λ w. next_leaf w s.start) apart ∙ next_after (pre ++ ls) s post (subst (λ w. rising w ≡ true) apart up) in
      let fails : Each (λ b. passes b ≡ false) before = each_map (λ b i l. ap (λ z. z && is_before b.offset (start_of_first post)) (not_below s.start b.offset l)) early in
      let first : first_comment c s ≡ Some (o, mark o) =
      ap (λ w. find (λ (q : Remark). nat_lt s.start q.0.offset && is_before q.0.offset (next_leaf c.leaves s.start)) w) (remarks ∙ ap (λ z. zip z (map mark z)) are)
      ∙ (ap (λ n. find (λ (q : Remark). nat_lt s.start q.0.offset && is_before q.0.offset n) (zip all (map mark all))) next
      ∙ first_passing passes mark before o rest fails (and_from _ _ (below s.start o.offset after) (first_later o.offset post later))) in
      let here : trail_of c s ≡ o ∷ [] =
      ap (trailing_leaf c s) first ∙ (ap (λ b. if b && not (is_among c.key_comments o) then o ∷ [] else []) test ∙ ap (λ b. if true && not b then o ∷ [] else []) key) in
      let leaves : flat_map (trail_of c) row.leaves ≡ [] = right_nothing (option_to_list row.key_comment) (flat_map (trail_of c) row.leaves) none in
      let parts : flat_map (trail_of c) ls ++ (trail_of c s ++ []) ≡ [] = sym (flat_map-append (trail_of c) ls (s ∷ [])) ∙ (ap (flat_map (trail_of c)) (sym e) ∙ leaves) in
      no_nil {A = CommentValue} (ap (λ w. w ++ []) (sym here) ∙ right_nothing (flat_map (trail_of c) ls) (trail_of c s ++ []) parts) where
        passes : CommentValue → Bool
        passes d = nat_lt s.start d.offset && is_before d.offset (start_of_first post)

  -- no comment trails a row if none was laid out
  trails_unseen : (row : Row) (rows : List Row) (e : CommentValue) (j : ℕ) → row.key_comment ≡ None → LeavesTo j row.leaves → Broken t j → j ≤ e.offset → In e cs → Near c row e rows → ⊥
  trails_unseen row rows e j none reach broken low i (before_leaf key next more q s has l) = none_some (sym none ∙ key)
  trails_unseen row rows e j none reach broken low i (at_leaf s r has last first same test) = go (nat_lt e.offset s.end) refl test where
    end : s.end ≤ j
    end = has_to reach has

    go : (b : Bool) → nat_lt e.offset s.end ≡ b → (b || r.1) ≡ true → ⊥
    go true q f = let l : e.offset < s.end = is_less e.offset s.end q in omega (arith, l, end, low)
    go false q f =
        let noted : mark e ≡ true = ap mark (sym same) ∙ (sym (note_is lines are_lines c cs remarks sign s r first) ∙ f) in
        let on : list_any (is_on_line s.end e.offset) lines ≡ true = sym (ap (λ o. on_line_of lines o e.offset) last) ∙ noted in
        let l : e.offset < j = on_line_before lines are_lines c cs remarks sign j broken e s i on end in
        omega (arith, l, low)

  -- the test of the comment that was laid out
  tested : (pre ls : List Span) (s : Span) (post : List Span) (from : ℕ) (o : CommentValue) → c.leaves ≡ (pre ++ ls) ++ (s ∷ post) → In o cs → s.start < o.offset → AllFrom (o.offset + 1) (starts_of post) → InOrBeside t from s o.offset
      → (nat_lt o.offset s.end || mark o) ≡ true
  tested pre ls s post from o apart i after later (in_leaf l) = ap (λ b. b || mark o) (below o.offset s.end l)
  tested pre ls s post from o apart i after later (beside_leaf l m quiet) =
      let last : last_leaf None o.offset c.leaves ≡ Some s = ap (last_leaf None o.offset) apart ∙ last_is (pre ++ ls) s post o.offset after later None in
      let within : o.offset < length t = within_from_code t o.offset (omega (arith, sign o i)) in
      let on : list_any (is_on_line s.end o.offset) lines ≡ true = line_holds are_lines refl from s.end o.offset (omega arith) l m within quiet in
      ap (λ b. nat_lt o.offset s.end || b) (ap (λ w. on_line_of lines w o.offset) last ∙ on) ∙ or_true (nat_lt o.offset s.end)

  module _ {d : Deco} {p : PlacedRow} {own : List CommentValue} {place top : ℕ} (row : Row) (rows : List Row) (pre : List Span) (before rest : List CommentValue) (laid : LaidRow d row) (leaves : row.leaves ≡ p.leaves) (extent : RowExtent t d p own place)
      (all : c.leaves ≡ pre ++ (row.leaves ++ leaves_on rows)) (later : AllFrom top (starts_of (leaves_on rows)))
      (keys : row.key_comment ≡ None → (o : CommentValue) → p.upto ≤ o.offset → o.offset < top → is_among c.key_comments o ≡ false)
      (are : cs ≡ before ++ (own ++ rest)) (early : Under p.from before) (over : Over p.upto own) (under : Under top own) (far : Over place rest) (is : texts own ≡ carried_texts d) where
    starts_after : {m n : ℕ} {ss : List ℕ} → m ≤ n → AllFrom n ss → AllFrom m ss
    starts_after l none_later = none_later
    starts_after l (one_later m a) = one_later (omega (arith, l, m)) (starts_after l a)

    last_begins : (ls : List Span) (s : Span) → Inside p.from p.upto (starts_of (ls ++ (s ∷ []))) → (p.from ≤ s.start) × (s.start ≤ p.upto)
    last_begins [] s (one_inside l m a) = (l, m)
    last_begins (x ∷ ls) s (one_inside l m a) = last_begins ls s a

    -- if one was laid out, one trails the row
    seen : (x : List ℕ) → d.trails ≡ x ∷ [] → trailing c row ≡ [] → ⊥
    seen x e none = by_key row.key_comment refl where
      some : d.trails ≡ [] → ⊥
      some z = no_nil {A = List ℕ} (sym e ∙ z)

      by_leaf : row.key_comment ≡ None → (ls : List Span) (s : Span) → row.leaves ≡ ls ++ (s ∷ []) → (os : List CommentValue) → own ≡ os → ⊥
      by_leaf k ls s g [] f = no_nil {A = List ℕ} (sym (ap texts (sym f) ∙ (is ∙ ap (λ z. z ++ remarks_of d.gap) e)))
      by_leaf k ls s g (o ∷ os) f =
          let at : cs ≡ before ++ (o ∷ (os ++ rest)) = are ∙ ap (λ z. before ++ (z ++ rest)) f in
          let i : In o cs = subst (λ z. In o z) (sym at) (there before) in
          let low : p.upto ≤ o.offset = head_at (subst (λ z. Over p.upto z) f over) in
          let high : o.offset < top = head_at (subst (λ z. Under top z) f under) in
          let apart : c.leaves ≡ (pre ++ ls) ++ (s ∷ leaves_on rows) =
          all ∙ (ap (λ w. pre ++ (w ++ leaves_on rows)) g ∙ (ap (λ w. pre ++ w) (append_assoc ls (s ∷ []) (leaves_on rows)) ∙ sym (append_assoc pre ls (s ∷ leaves_on rows)))) in
          let begins = last_begins ls s (subst (λ z. Inside p.from p.upto (starts_of z)) (sym leaves ∙ g) extent.starts) in
          let other : s.start ≡ o.offset → ⊥ = λ z. unsigned_after (pre ++ ls) s (leaves_on rows) (subst (λ w. Unsigned t (starts_of w)) apart unsigned) (ap (code t) z ∙ sign o i) in
          let after : s.start < o.offset = ⊎_elim (λ (z : s.start < o.offset). z) (λ (z : o.offset ≤ s.start). let l = begins.1 in absurd (other (omega (arith, z, l, low)))) (cases_lt s.start o.offset) in
          let follows : AllFrom (o.offset + 1) (starts_of (leaves_on rows)) = starts_after (omega (arith, high)) later in
          trails_seen pre ls s (leaves_on rows) row before o (os ++ rest) g apart at (each_map (λ b j l. let m = begins.0 in omega (arith, l, m)) early) after follows
          (tested pre ls s (leaves_on rows) p.from o apart i after follows (extent.trailed o os f some ls s (sym leaves ∙ g))) (keys k o low high) none where
            there : (xs : List CommentValue) → In o (xs ++ (o ∷ (os ++ rest)))
            there [] = in_first
            there (x ∷ xs) = in_rest (there xs)

            head_at : {P : CommentValue → Type 0} → Each P (o ∷ os) → P o
            head_at (each_more l a) = l

      by_leaves : row.key_comment ≡ None → (ls : List Span) → row.leaves ≡ ls → EndsIn ls → ⊥
      by_leaves k [] g ends_in_none = some (laid.bare g k)
      by_leaves k all g (ends_in ls s) = by_leaf k ls s g own refl

      by_key : (o : Option CommentValue) → row.key_comment ≡ o → ⊥
      by_key None k = by_leaves k row.leaves refl (ending_of row.leaves)
      by_key (Some v) k = no_nil {A = CommentValue} (ap (λ z. option_to_list z ++ flat_map (trail_of c) row.leaves) (sym k) ∙ none)

    pub row_trail_tied : Inside p.from p.upto row.items → QuietRow cs p → RowTrail c cs row rows → TrailTied c cs row p d
    row_trail_tied inside quiet (untrailed q) = go d.trails refl laid.fits where
      go : (xs : List (List ℕ)) → d.trails ≡ xs → AreTrails xs → TrailTied c cs row p d
      go [] e a = nothing_trails q e
      go (x ∷ []) e a = absurd (seen x e q)
      go (x ∷ y ∷ zs) e a = absurd a
    row_trail_tied inside quiet (trailed_after e a q i s l f g h k n near) = go d.trails refl laid.fits where
      bounds : (p.from ≤ a) × (a ≤ p.upto)
      bounds = sub_inside s inside

      high : p.upto ≤ e.offset
      high = ⊎_elim (λ (z : e.offset < p.from). let m = bounds.0 in absurd (omega (arith, z, m, l))) (λ (z : p.upto ≤ e.offset). z) (each_at quiet i)

      edge_low : (w : ClearEnd t p own place) → In e (before ++ (own ++ rest)) → w.edge ≤ e.offset
      edge_low w j =
          ⊎_elim (λ (z : In e before). let m : e.offset < p.from = each_at early z in let b = bounds.0 in absurd (omega (arith, m, b, l)))
          (λ (z : In e (own ++ rest)). ⊎_elim (λ (y : In e own). each_at w.over y) (λ (y : In e rest). w.later e.offset (sign e i) (each_at far y)) (in_parts own rest z))
          (in_parts before (own ++ rest) j)

      go : (xs : List (List ℕ)) → d.trails ≡ xs → AreTrails xs → TrailTied c cs row p d
      go [] z b =
          let w = extent.clear z in
          absurd (trails_unseen row rows e w.edge (laid.keyless z) (subst (λ v. LeavesTo w.edge v) (sym leaves) w.reach) w.broken (edge_low w (subst (λ v. In e v) are i)) i near)
      go (x ∷ []) z b = first_trails e x q z (laid.stays x z) i high (λ v j m. no_less v j m (cases_lt v.offset e.offset)) where
        no_less : (v : CommentValue) → In v cs → p.upto ≤ v.offset → (v.offset < e.offset) ⊎ (e.offset ≤ v.offset) → e.offset ≤ v.offset
        no_less v j m (inl y) = let o : v.offset < a = f v j y in let u = bounds.1 in absurd (omega (arith, o, u, m))
        no_less v j m (inr y) = y
      go (x ∷ y ∷ zs) z b = absurd b
