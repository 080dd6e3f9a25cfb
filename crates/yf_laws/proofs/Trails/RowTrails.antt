-- At most one comment trails a row of a layout, if none is between the leaves that are written together.
use Rattle.std.proofs.Common.{◌≡◌, ℕ, Bool, true, false, not, ◌&&◌, ◌||◌, List, [], ◌∷◌, ◌++◌, map, flat_map, Option, Some, None, refl, sym, ap, ◌∙◌, subst, arith, append_assoc, append-nil}
use Rattle.std.specs.Prelude.{◌==◌, find, zip, nat_lt, option_to_list, if◌then◌else◌}
use Rattle.std.proofs.lemmas.Bool.Decides.{nat_tests}
use Rattle.std.proofs.lemmas.Option.{same_Some}
use Rattle.yf_comments.specs.Comment.{CommentValue}
use Rattle.yf_comments.specs.GapLines.{IsRemark}
use Rattle.yf_events.specs.declared.event.Span.{Span}
use Rattle.yf_laws.specs.Layouts.RowComments.{AreTrails, AreRemarks, no_remark, one_remark, TrailsFit}
use Rattle.yf_laws.specs.Layouts.Layout.{Source, Remark, first_comment, is_among, is_before, next_leaf, trailing, trailing_leaf}
use Rattle.yf_forms.specs.Nodes.Lines.{trimmed}
use Rattle.yf_print.specs.Layouts.Rows.{Row}
use Rattle.yf_laws.proofs.Writable.StillLeaves.{Still, nothing_still, one_still, more_still, between}
use Rattle.yf_laws.proofs.Trails.RowLeaves.{leaves_on}
use Rattle.yf_laws.proofs.Trails.TrailChoice.{next_after, rising}

-- A comment that is found.

pub found_remark : (p : CommentValue → Bool) {cs : List CommentValue} (d : CommentValue) → AreRemarks cs → find p cs ≡ Some d → IsRemark (trimmed d.text)
found_remark p d no_remark e = absurd cc
found_remark p d (one_remark {c = c} {cs = cs} a more) e = go (p c) (found_remark p d more) e where
  go : (b : Bool) → (find p cs ≡ Some d → IsRemark (trimmed d.text)) → (if b then Some c else find p cs) ≡ Some d → IsRemark (trimmed d.text)
  go true rest f = subst (λ (o : CommentValue). IsRemark (trimmed o.text)) (same_Some c d f) a
  go false rest f = rest f

abbrev noted : (CommentValue → Bool) → Remark → Bool
noted p r = p r.0

noted_remark : (p : CommentValue → Bool) {cs : List CommentValue} (bs : List Bool) (r : Remark) → AreRemarks cs → find (noted p) (zip cs bs) ≡ Some r → IsRemark (trimmed r.0.text)
noted_remark p bs r no_remark e = absurd cc
noted_remark p [] r (one_remark a more) e = absurd cc
noted_remark p (b ∷ bs) r (one_remark {c = c} {cs = cs} a more) e = go (p c) (noted_remark p bs r more) e where
  go : (w : Bool) → (find (noted p) (zip cs bs) ≡ Some r → IsRemark (trimmed r.0.text)) → (if w then Some (c, b) else find (noted p) (zip cs bs)) ≡ Some r → IsRemark (trimmed r.0.text)
  go true rest f = subst (λ (o : Remark). IsRemark (trimmed o.0.text)) (same_Some (c, b) r f) a
  go false rest f = rest f

noted_none : (p : CommentValue → Bool) (cs : List CommentValue) (bs : List Bool) → find p cs ≡ None → find (noted p) (zip cs bs) ≡ None
noted_none p [] bs e = refl
noted_none p (c ∷ cs) [] e = refl
noted_none p (c ∷ cs) (b ∷ bs) e = go (p c) (noted_none p cs bs) e where
  go : (w : Bool) → (find p cs ≡ None → find (noted p) (zip cs bs) ≡ None) → (if w then Some c else find p cs) ≡ None → (if w then Some (c, b) else find (noted p) (zip cs bs)) ≡ None
  go true rest f = absurd cc
  go false rest f = rest f

-- that comment with its note, or none if notes are missing
record SameNoted (d : CommentValue) (o : Option Remark) : Type 0 where
  same : (r : Remark) → o ≡ Some r → r.0 ≡ d

noted_same : (p : CommentValue → Bool) (cs : List CommentValue) (bs : List Bool) (d : CommentValue) → find p cs ≡ Some d → SameNoted d (find (noted p) (zip cs bs))
noted_same p [] bs d e = absurd cc
noted_same p (c ∷ cs) [] d e = record { same = λ r f. absurd cc }
noted_same p (c ∷ cs) (b ∷ bs) d e = go (p c) (noted_same p cs bs d) e where
  go : (w : Bool) → (find p cs ≡ Some d → SameNoted d (find (noted p) (zip cs bs))) → (if w then Some c else find p cs) ≡ Some d → SameNoted d (if w then Some (c, b) else find (noted p) (zip cs bs))
  go true rest f = record { same = λ r g. ap (λ (o : Remark). o.0) (sym (same_Some (c, b) r g)) ∙ same_Some c d f }
  go false rest f = rest f

-- Leaves of one row.

-- the last of these leaves, before the first of those after them, has this comment after it
abbrev pub KeyLast : List CommentValue → CommentValue → List Span → List Span → Type 0
KeyLast cs d [] post = Unit {0}
KeyLast cs d (s ∷ []) [] = ⊥
KeyLast cs d (s ∷ []) (r ∷ post) = find (between s.start r.start) cs ≡ Some d
KeyLast cs d (s ∷ x ∷ xs) post = KeyLast cs d (x ∷ xs) post

pub record Tidy (cs : List CommentValue) (row : Row) (post : List Span) : Type 0 where
  pub still : Still cs row.leaves
  pub key : (d : CommentValue) → row.key_comment ≡ Some d → IsRemark (trimmed d.text) × KeyLast cs d row.leaves post

abbrev pub trail_of : Source → Span → List CommentValue
trail_of c s = trailing_leaf c s (first_comment c s)

abbrev texts_of : List CommentValue → List (List ℕ)
texts_of ds = map (λ (d : CommentValue). trimmed d.text) ds

module _ (c : Source) (cs : List CommentValue) (bs : List Bool) (remarks : c.remarks ≡ zip cs bs) (up : rising c.leaves ≡ true) where
  -- the first comment after a leaf, if another leaf follows
  first_before : (pre : List Span) (s r : Span) (ys : List Span) → c.leaves ≡ pre ++ (s ∷ r ∷ ys) → first_comment c s ≡ find (noted (between s.start r.start)) (zip cs bs)
  first_before pre s r ys e =
      let next : next_leaf c.leaves s.start ≡ Some r.start = ap (λ w. next_leaf w s.start) e ∙ next_after pre s (r ∷ ys) (subst (λ w. rising w ≡ true) e up) in
      ap (λ w. find (λ (q : Remark). nat_lt s.start q.0.offset && is_before q.0.offset (next_leaf c.leaves s.start)) w) remarks
      ∙ ap (λ o. find (λ (q : Remark). nat_lt s.start q.0.offset && is_before q.0.offset o) (zip cs bs)) next

  pub silent : (pre : List Span) (s r : Span) (ys : List Span) → c.leaves ≡ pre ++ (s ∷ r ∷ ys) → find (between s.start r.start) cs ≡ None → trail_of c s ≡ []
  silent pre s r ys e n = ap (trailing_leaf c s) (first_before pre s r ys e ∙ noted_none (between s.start r.start) cs bs n)

  one_trail : (s : Span) → AreRemarks cs → AreTrails (texts_of (trail_of c s ++ []))
  one_trail s a = go (first_comment c s) refl where
    by : (r : Remark) (b : Bool) → IsRemark (trimmed r.0.text) → AreTrails (texts_of ((if b then r.0 ∷ [] else []) ++ []))
    by r true k = k
    by r false k = tt

    go : (o : Option Remark) → first_comment c s ≡ o → AreTrails (texts_of (trailing_leaf c s o ++ []))
    go None e = tt
    go (Some r) e = by r ((nat_lt r.0.offset s.end || r.1) && not (is_among c.key_comments r.0))
        (noted_remark (λ d. nat_lt s.start d.offset && is_before d.offset (next_leaf c.leaves s.start)) bs r a
        (sym (ap (λ w. find (λ (q : Remark). nat_lt s.start q.0.offset && is_before q.0.offset (next_leaf c.leaves s.start)) w) remarks) ∙ e))

  leaves_trail : (pre ls post : List Span) → c.leaves ≡ pre ++ (ls ++ post) → AreRemarks cs → Still cs ls → AreTrails (texts_of (flat_map (trail_of c) ls))
  leaves_trail pre ls post e a nothing_still = tt
  leaves_trail pre ls post e a (one_still {s = s}) = one_trail s a
  leaves_trail pre ls post e a (more_still {s = s} {r = r} {ss = ss} n k) =
      let rest = leaves_trail (pre ++ (s ∷ [])) (r ∷ ss) post (e ∙ sym (append_assoc pre (s ∷ []) ((r ∷ ss) ++ post))) a k in
      subst (λ w. AreTrails (texts_of (w ++ flat_map (trail_of c) (r ∷ ss)))) (sym (silent pre s r (ss ++ post) e n)) rest

  -- only the comment that trails their key trails them
  key_silent : (d : CommentValue) (pre : List Span) (s r : Span) (ys : List Span) → c.leaves ≡ pre ++ (s ∷ r ∷ ys) → is_among c.key_comments d ≡ true
      → find (between s.start r.start) cs ≡ Some d → trail_of c s ≡ []
  key_silent d pre s r ys e k f = ap (trailing_leaf c s) (first_before pre s r ys e) ∙ go (find (noted (between s.start r.start)) (zip cs bs)) (noted_same (between s.start r.start) cs bs d f) where
    go : (o : Option Remark) → SameNoted d o → trailing_leaf c s o ≡ []
    go None g = refl
    go (Some q) g =
        let among : is_among c.key_comments q.0 ≡ true = ap (is_among c.key_comments) (g.same q refl) ∙ k in
        ap (λ w. if (nat_lt q.0.offset s.end || q.1) && not w then q.0 ∷ [] else []) among ∙ never (nat_lt q.0.offset s.end || q.1) (q.0 ∷ []) where
          never : (b : Bool) (x : List CommentValue) → (if b && false then x else []) ≡ []
          never true x = refl
          never false x = refl

  pub leaves_silent : (d : CommentValue) (pre ls post : List Span) → c.leaves ≡ pre ++ (ls ++ post) → is_among c.key_comments d ≡ true → Still cs ls → KeyLast cs d ls post
      → flat_map (trail_of c) ls ≡ []
  leaves_silent d pre ls post e k nothing_still h = refl
  leaves_silent d pre ls [] e k (one_still {s = s}) h = absurd h
  leaves_silent d pre ls (r ∷ post) e k (one_still {s = s}) h = append-nil (trail_of c s) ∙ key_silent d pre s r post e k h
  leaves_silent d pre ls post e k (more_still {s = s} {r = r} {ss = ss} n m) h =
      ap (λ w. w ++ flat_map (trail_of c) (r ∷ ss)) (silent pre s r (ss ++ post) e n)
      ∙ leaves_silent d (pre ++ (s ∷ [])) (r ∷ ss) post (e ∙ sym (append_assoc pre (s ∷ []) ((r ∷ ss) ++ post))) k m h

  row_trails : (pre : List Span) (row : Row) (post : List Span) → c.leaves ≡ pre ++ (row.leaves ++ post) → AreRemarks cs → Tidy cs row post
      → ((d : CommentValue) → row.key_comment ≡ Some d → is_among c.key_comments d ≡ true) → AreTrails (texts_of (trailing c row))
  row_trails pre row post e a t k = go row.key_comment refl where
    go : (o : Option CommentValue) → row.key_comment ≡ o → AreTrails (texts_of (option_to_list o ++ flat_map (trail_of c) row.leaves))
    go None f = leaves_trail pre row.leaves post e a t.still
    go (Some d) f = subst (λ w. AreTrails (texts_of ((d ∷ []) ++ w))) (sym (leaves_silent d pre row.leaves post e (k d f) t.still (t.key d f).1)) (t.key d f).0

-- Rows.

abbrev pub TidyRows : List CommentValue → List Row → List Span → Type 0
TidyRows cs [] post = Unit {0}
TidyRows cs (x ∷ xs) post = Tidy cs x (leaves_on xs ++ post) × TidyRows cs xs post

abbrev pub keys_of : List Row → List CommentValue
keys_of rows = flat_map (λ (row : Row). option_to_list row.key_comment) rows

pub among_after : (before rest : List CommentValue) (d : CommentValue) → is_among (before ++ (d ∷ rest)) d ≡ true
among_after [] rest d = ap (λ b. b || is_among rest d) (itself d.offset) where
  itself : (n : ℕ) → (n == n) ≡ true
  itself n = grind (arith, nat_tests)
among_after (c ∷ before) rest d = ap (λ b. (c.offset == d.offset) || b) (among_after before rest d) ∙ always (c.offset == d.offset) where
  always : (b : Bool) → (b || true) ≡ true
  always true = refl
  always false = refl

pub rows_trail : {c : Source} {cs : List CommentValue} (bs : List Bool) (pre : List Span) (before : List CommentValue) (rows : List Row) → c.remarks ≡ zip cs bs → rising c.leaves ≡ true
    → AreRemarks cs → c.leaves ≡ pre ++ leaves_on rows → c.key_comments ≡ before ++ keys_of rows → TidyRows cs rows [] → TrailsFit c rows
rows_trail bs pre before [] remarks up a e k t = tt
rows_trail {c} {cs} bs pre before (x ∷ xs) remarks up a e k t =
    let key : (d : CommentValue) → x.key_comment ≡ Some d → is_among c.key_comments d ≡ true =
    λ d f. ap (λ w. is_among w d) (k ∙ ap (λ o. before ++ (option_to_list o ++ keys_of xs)) f) ∙ among_after before (keys_of xs) d in
    let tidy : Tidy cs x (leaves_on xs) = subst (λ w. Tidy cs x w) (append-nil (leaves_on xs)) t.0 in (
      row_trails c cs bs remarks up pre x (leaves_on xs) e a tidy key,
      rows_trail bs (pre ++ x.leaves) (before ++ option_to_list x.key_comment) xs remarks up a (e ∙ sym (append_assoc pre x.leaves (leaves_on xs)))
          (k ∙ sym (append_assoc before (option_to_list x.key_comment) (keys_of xs))) t.1,
    )
