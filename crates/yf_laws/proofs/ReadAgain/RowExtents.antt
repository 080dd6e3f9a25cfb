-- The extents of the comments after a row: the one that trails it is in the row's last leaf or on the row's line, and
-- the others are after a line break.
use Rattle.std.proofs.Common.{◌≡◌, ◌≢◌, ℕ, ◌+◌, ◌<◌, ◌≤◌, Bool, false, true≢false, List, [], ◌∷◌, ◌++◌, length, refl, sym, ap, ◌∙◌, subst, arith, append-nil, ⊎_elim}
use Rattle.std.specs.Str.{IsUtf8}
use Rattle.yf_chars.specs.Chain.{Many}
use Rattle.yf_chars.specs.Chain.Chain.{done}
use Rattle.yf_chars.specs.Class.{is_white}
use Rattle.yf_chars.specs.Text.{code, no_char}
use Rattle.yf_chars.proofs.ChainLemmas.{many_unique}
use Rattle.yf_chars.proofs.TextLemmas.{code-end}
use Rattle.yf_lines.specs.Basic.{LineStart}
use Rattle.yf_lines.specs.Basic.SeparateInLine.{by_whites, at_start}
use Rattle.yf_lines.specs.LineText.{IsLineText}
use Rattle.yf_lines.specs.Rest.{Rest}
use Rattle.yf_lines.proofs.BasicLemmas.{break_char}
use Rattle.yf_lines.proofs.ClearLemmas.{Quiet, quiet_join}
use Rattle.yf_lines.proofs.RestLemmas.{rest_ascii, rest_break, rest_spaces, rest_text}
use Rattle.yf_comments.specs.Comment.{CommentValue}
use Rattle.yf_comments.specs.Comments.{BreakOrEnd, CommentText, LineEnd, LineRest}
use Rattle.yf_comments.specs.Comments.BreakOrEnd.{by_break, by_end}
use Rattle.yf_comments.specs.Comments.CommentText.{comment_text}
use Rattle.yf_comments.specs.Comments.LineEnd.{past_rest, from_start}
use Rattle.yf_comments.specs.Comments.LineRest.{nothing, whites, comment}
use Rattle.yf_comments.specs.GapLines.{IsRemark}
use Rattle.yf_comments.proofs.GapLinesLemmas.{texts, spaces_whites}
use Rattle.yf_comments.proofs.RowLemmas.{end_white}
use Rattle.yf_block_scalar.specs.Body.{first_noted}
use Rattle.yf_events.specs.Event.{EventInText}
use Rattle.yf_events.specs.declared.event.Span.{Span}
use Rattle.yf_grammar.proofs.Documents.CommentOrder.{Ascend, no_more, one_more, ascend_order, end_ascends, rows_ascend}
use Rattle.yf_stream.specs.ReadingOf.{NotedComments, no_comment, one_comment}
use Rattle.yf_stream.proofs.Offsets.BrokenEnds.{Broken, at_break}
use Rattle.yf_laws.specs.Layouts.RowComments.{AreTrails, IsDeco}
use Rattle.yf_laws.specs.Layouts.Decorated.{Deco, body_then, end_then, gap_then, trails_then}
use Rattle.yf_print.specs.Layouts.Rows.{Row}
use Rattle.yf_laws.proofs.Derived.ClearRows.{trails_are, trails_bytes, trails_line}
use Rattle.yf_laws.proofs.SameReading.CommentsCut.{each_none, each_more, Over, Under, upward_over, upward_of}
use Rattle.yf_laws.proofs.RowNodes.PlacedRows.{Inside, one_inside, PlacedRow, AtRow, LeavesTo, leaf_to, leaves_to_wider, LastEnd, last_end, later_end, OwnTail, after_line, after_scalar, EndsRow}
use Rattle.yf_laws.proofs.RowNodes.QuietPlaces.{ascend_under}
use Rattle.yf_laws.proofs.OutputLines.SeenTexts.{IsSeen}
use Rattle.yf_laws.proofs.Derived.StepsInText.{starts_of}
use Rattle.yf_chars.proofs.CharFacts.{hash_no_white, space_white}
use Rattle.yf_laws.proofs.OutputLines.LinedRows.{seen_long}

-- an offset in a leaf, or after it on the line of an earlier place
pub data InOrBeside (t : List ℕ) (from : ℕ) (s : Span) (o : ℕ) : Type 0 where
  in_leaf : o < s.end → InOrBeside t from s o
  beside_leaf : from < s.end → s.end ≤ o → Quiet t from o → InOrBeside t from s o

-- a line break ends after the leaves of a row, and before the comments after it
pub record ClearEnd (t : List ℕ) (p : PlacedRow) (own : List CommentValue) (place : ℕ) : Type 0 where
  pub edge : ℕ
  pub broken : Broken t edge
  pub reach : LeavesTo edge p.leaves
  pub over : Over edge own
  pub later : (e : ℕ) → code t e ≡ 35 → place ≤ e → edge ≤ e

pub record RowExtent (t : List ℕ) (d : Deco) (p : PlacedRow) (own : List CommentValue) (place : ℕ) : Type 0 where
  pub items : Inside p.from p.upto p.items
  pub starts : Inside p.from p.upto (starts_of p.leaves)
  pub clear : d.trails ≡ [] → ClearEnd t p own place
  pub trailed : (o : CommentValue) (os : List CommentValue) → own ≡ o ∷ os → (d.trails ≡ [] → ⊥) → (ls : List Span) (s : Span) → p.leaves ≡ ls ++ (s ∷ []) → InOrBeside t p.from s o.offset

-- The last leaf.

last_leaf_to : {n : ℕ} (ls : List Span) (s : Span) → LeavesTo n (ls ++ (s ∷ [])) → (s.start < s.end) × (s.end ≤ n)
last_leaf_to [] s (leaf_to l m a) = (l, m)
last_leaf_to (x ∷ ls) s (leaf_to l m a) = last_leaf_to ls s a

last_start : {i j : ℕ} (ls : List Span) (s : Span) → Inside i j (starts_of (ls ++ (s ∷ []))) → i ≤ s.start
last_start [] s (one_inside l m a) = l
last_start (x ∷ ls) s (one_inside l m a) = last_start ls s a

abbrev end_or : ℕ → List Span → ℕ
end_or other [] = other
end_or other (s ∷ ss) = s.end

abbrev after_first : List Span → List Span
after_first [] = []
after_first (s ∷ ss) = ss

no_last_end : {ss : List Span} {e : ℕ} → LastEnd ss e → ss ≡ [] → ⊥
no_last_end last_end q = absurd cc
no_last_end (later_end a) q = absurd cc

last_end_of : {ss : List Span} {e : ℕ} → LastEnd ss e → (ls : List Span) (s : Span) → ss ≡ ls ++ (s ∷ []) → e ≡ s.end
last_end_of last_end [] s q = ap (end_or 0) q
last_end_of last_end (x ∷ []) s q = absurd cc
last_end_of last_end (x ∷ y ∷ ls) s q = absurd cc
last_end_of (later_end a) [] s q = absurd (no_last_end a (ap after_first q))
last_end_of (later_end a) (x ∷ ls) s q = last_end_of a ls s (ap after_first q)

-- The first comment.

abbrev offset_or : List CommentValue → ℕ
offset_or [] = 0
offset_or (c ∷ cs) = c.offset

no_end_at_sign : {t : List ℕ} {i j : ℕ} → BreakOrEnd t i j → code t i ≡ 35 → ⊥
no_end_at_sign {t} (by_break b) e = ⊎_elim (λ z. omega (arith, z, e)) (λ z. omega (arith, z, e)) (break_char b)
no_end_at_sign {t} (by_end q) e = let end : code t (length t) ≡ no_char = code-end t in let here : code t (length t) ≡ 35 = ap (code t) (sym q) ∙ e in omega (arith, end, here)

no_end_at_space : {t : List ℕ} {i j : ℕ} → BreakOrEnd t i j → code t i ≡ 32 → ⊥
no_end_at_space b e = true≢false (sym space_white ∙ (ap is_white (sym e) ∙ end_white b))

first_place : {t : List ℕ} {q j : ℕ} {own : List CommentValue} (x z : List ℕ) (o : CommentValue) (os : List CommentValue) → IsUtf8 t → IsRemark x → (LineStart t q → ⊥) → Rest t q (32 ∷ 32 ∷ (x ++ (10 ∷ z)))
    → LineEnd t q j own → own ≡ o ∷ os → o.offset ≡ q + 2
first_place {t} {q} {j} x z o os u a n w (past_rest {y = ys} r c) e = go ys r e where
  space : code t q ≡ 32
  space = (rest_ascii 32 u (omega arith) (λ e. absurd (omega arith)) w).0.char

  sign : code t (q + 2) ≡ 35
  sign = (rest_ascii 35 u (omega arith) (λ e. absurd (omega arith)) (subst (λ v. Rest t (q + 2) (v ++ (10 ∷ z))) a.is (rest_spaces 2 q u w).1)).0.char

  at_sign : {h : ℕ} {y : List ℕ} → Many t is_white q h y → is_white (code t h) ≡ false → h ≡ q + 2
  at_sign m f = (many_unique t is_white m f (spaces_whites 2 q (rest_spaces 2 q u w).0).1 (ap is_white sign ∙ hash_no_white)).0

  texted : {h j : ℕ} {w : List ℕ} {xs : List CommentValue} (ys : List CommentValue) → Many t is_white q h w → CommentText t h j xs → xs ++ ys ≡ o ∷ os → o.offset ≡ q + 2
  texted ys m (comment_text v k note) f = sym (ap offset_or f) ∙ at_sign m (ap is_white v ∙ hash_no_white)

  go : {h : ℕ} {xs : List CommentValue} (ys : List CommentValue) → LineRest t q h xs → xs ++ ys ≡ o ∷ os → o.offset ≡ q + 2
  go ys (nothing b) f = absurd (no_end_at_space b space)
  go ys (whites (at_start s) b) f = absurd (n s)
  go ys (whites (by_whites m l) b) f = absurd (no_end_at_sign b (ap (code t) (at_sign m (end_white b)) ∙ sign))
  go ys (comment (at_start s) k b) f = absurd (n s)
  go ys (comment (by_whites m l) k b) f = texted ys m k f
first_place x z o os u a n w (from_start s c) e = absurd (n s)

-- A row without lines of a scalar.

over_edge : {t : List ℕ} {i j : ℕ} {cs : List CommentValue} → code t i ≡ 10 → Ascend t i cs j → Over (i + 1) cs
over_edge f (no_more l) = each_none
over_edge {t} {i} f (one_more {c = c} l s a) =
    let apart : c.offset ≢ i = λ z. let e : code t i ≡ 35 = ap (code t) (sym z) ∙ s.sign in omega (arith, f, e) in
    let later : i + 1 ≤ c.offset = omega (arith, l, apart) in
    each_more later (upward_over (i + 1) (omega (arith, later)) (upward_of a))

module _ {t : List ℕ} (u : IsUtf8 t) {x : Row} {p : PlacedRow} {i : ℕ} {own : List CommentValue} {place : ℕ} (d : Deco) (r : List ℕ) (text : IsLineText x.text) (seen : IsSeen x.text) (fit : IsDeco d)
    (at : AtRow x i p) (e : EndsRow t x.body d p own place) (w : Rest t i (x.text ++ end_then d x.body r)) where
  begun_at : p.from ≡ i
  begun_at = at.from

  items_at : Inside p.from p.upto p.items
  items_at = subst (λ z. Inside z p.upto p.items) (sym at.from) at.items

  starts_at : Inside p.from p.upto (starts_of p.leaves)
  starts_at = subst (λ z. Inside z p.upto (starts_of p.leaves)) (sym at.from) at.leaves

  line_extent : x.body ≡ [] → LineEnd t p.upto place own → LeavesTo p.upto p.leaves → RowExtent t d p own place
  line_extent none end leaves = record { items = items_at; starts = starts_at; clear = clear_end; trailed = λ o os f some ls s g. trailed_by o os f some ls s g d.trails refl fit.trails } where
    z : List ℕ
    z = gap_then d.gap r

    size : p.upto ≡ i + length x.text
    size = at.size none

    quiet : Quiet t i p.upto
    quiet = subst (λ k. Quiet t i k) (sym size) (rest_text x.text u text w).quiet

    there : Rest t p.upto (trails_then d.trails (10 ∷ z))
    there = subst (λ k. Rest t k (trails_then d.trails (10 ∷ z))) (sym size) (subst (λ b. Rest t (i + length x.text) (trails_then d.trails (10 ∷ body_then b z))) none (rest_text x.text u text w).rest)

    unstarted : LineStart t p.upto → ⊥
    unstarted s = let long = seen_long seen in quiet.none p.upto (omega (arith, size, long)) (omega arith) s

    clear_end : d.trails ≡ [] → ClearEnd t p own place
    clear_end f =
        let feed : Rest t p.upto (10 ∷ z) = subst (λ v. Rest t p.upto (trails_then v (10 ∷ z))) f there in
        let char : code t p.upto ≡ 10 = (rest_ascii 10 u (omega arith) (λ y. absurd (omega arith)) feed).0.char in
        let order : p.upto ≤ place = ascend_order e.ascend in
        record {
          edge = p.upto + 1;
          broken = at_break (rest_break u feed).0;
          reach = leaves_to_wider (omega arith) leaves;
          over = over_edge char e.ascend;
          later = λ o sign l. let apart : o ≢ p.upto = λ y. let f : code t p.upto ≡ 35 = ap (code t) (sym y) ∙ sign in omega (arith, f, char) in omega (arith, l, order, apart);
        }

    trailed_by : (o : CommentValue) (os : List CommentValue) → own ≡ o ∷ os → (d.trails ≡ [] → ⊥) → (ls : List Span) (s : Span) → p.leaves ≡ ls ++ (s ∷ []) → (xs : List (List ℕ)) → d.trails ≡ xs → AreTrails xs
        → InOrBeside t p.from s o.offset
    trailed_by o os f some ls s g [] h a = absurd (some h)
    trailed_by o os f some ls s g (y ∷ []) h a =
        let bytes : Rest t p.upto (32 ∷ 32 ∷ (y ++ (10 ∷ z))) = subst (λ v. Rest t p.upto (trails_then v (10 ∷ z))) h there in
        let offset : o.offset ≡ p.upto + 2 = first_place y z o os u a unstarted bytes end f in
        let trail : Quiet t p.upto (p.upto + length (trails_bytes (y ∷ []))) = (rest_text (trails_bytes (y ∷ [])) u (trails_line (y ∷ []) a) (subst (λ v. Rest t p.upto v) (trails_are (y ∷ []) (10 ∷ z)) bytes)).quiet in
        let whole : Quiet t i (p.upto + length (trails_bytes (y ∷ []))) = quiet_join quiet trail in
        let ends = last_leaf_to ls s (subst (λ v. LeavesTo p.upto v) g leaves) in
        let begins : i ≤ s.start = last_start ls s (subst (λ v. Inside i p.upto (starts_of v)) g at.leaves) in
        beside_leaf (omega (arith, at.from, begins, ends.0)) (omega (arith, ends.1, offset))
        (record { none = λ h l m s. whole.none h (omega (arith, l, at.from)) (omega (arith, m, offset)) s })
    trailed_by o os f some ls s g (y ∷ v ∷ ys) h a = absurd a

  -- A row with the lines of a scalar.

  near_under : {h start : ℕ} {near : List CommentValue} → LineRest t h start near → Under start near
  near_under {h} {start} {near} a = subst (λ v. Under start v) (append-nil near) (ascend_under (end_ascends (past_rest a done)))

  noted_over : {k j : ℕ} (b : Bool) (cs : List CommentValue) → Ascend t k cs j → Over k (first_noted b cs)
  noted_over b [] a = each_none
  noted_over {k} b (c ∷ cs) (one_more l s a) = each_more l (upward_over k (omega (arith, l)) (upward_of a))

  scalar_extent : {near far : List CommentValue} {h start end : ℕ} (b : Bool) → own ≡ near ++ first_noted b far → texts near ≡ d.trails → LineRest t h start near → start ≤ end → LeavesTo end p.leaves → LastEnd p.leaves end
      → Broken t end → Ascend t end far place → RowExtent t d p own place
  scalar_extent {near} {far} {h} {start} {end} b are is rest order leaves last broken a = record {
    items = items_at;
    starts = starts_at;
    clear = λ f. record {
      edge = end;
      broken = broken;
      reach = leaves;
      over = subst (λ v. Over end v) (sym (are ∙ ap (λ v. v ++ first_noted b far) (nothing_near near (is ∙ f)))) (noted_over b far a);
      later = λ o sign l. let k : end ≤ place = ascend_order a in omega (arith, k, l);
    };
    trailed = λ o os f some ls s g.
        let same : end ≡ s.end = last_end_of last ls s g in
        let low : o.offset < start = near_first (first_noted b far) near (near_under rest) (λ v. some (sym is ∙ ap texts v)) (sym are ∙ f) in
        in_leaf (omega (arith, low, order, same));
  } where
    nothing_near : (near : List CommentValue) → texts near ≡ [] → near ≡ []
    nothing_near [] f = refl
    nothing_near (c ∷ cs) f = absurd cc

    near_first : {o : CommentValue} {os : List CommentValue} (rest near : List CommentValue) → Under start near → (near ≡ [] → ⊥) → near ++ rest ≡ o ∷ os → o.offset < start
    near_first rest [] a n f = absurd (n refl)
    near_first {o = o} rest (c ∷ cs) (each_more l a) n f = let same : c.offset ≡ o.offset = ap offset_or f in omega (arith, l, same)

  pub extent_of : RowExtent t d p own place
  extent_of = go e.tail where
    go : OwnTail t x.body d p own place → RowExtent t d p own place
    go (after_line none end leaves) = line_extent none end leaves
    go (after_scalar b some are is m rest n w leaves last blank broken from to rows) = scalar_extent b are is rest n leaves last broken (rows_ascend rows)

-- Notes on blank lines don't move them.

noted_edge : {t : List ℕ} {es : List EventInText} {h : ℕ} {xs ys : List CommentValue} → Over h xs → NotedComments t es xs ys → Over h ys
noted_edge each_none no_comment = each_none
noted_edge (each_more l a) (one_comment n b) = each_more l (noted_edge a b)

noted_beside : {t v : List ℕ} {es : List EventInText} {from : ℕ} {s : Span} {xs ys : List CommentValue} (o : CommentValue) (os : List CommentValue) → ((c : CommentValue) (cs : List CommentValue) → xs ≡ c ∷ cs → InOrBeside v from s c.offset)
    → NotedComments t es xs ys → ys ≡ o ∷ os → InOrBeside v from s o.offset
noted_beside o os f no_comment e = absurd cc
noted_beside {v = v} {from = from} {s = s} o os f (one_comment {c = c} {cs = cs} n a) e = subst (λ z. InOrBeside v from s z) (ap offset_or e) (f c cs refl)

pub extent_noted : {t v : List ℕ} {es : List EventInText} {d : Deco} {p : PlacedRow} {own noted : List CommentValue} {place : ℕ} → RowExtent v d p own place → NotedComments t es own noted → RowExtent v d p noted place
extent_noted a n = record {
  items = a.items;
  starts = a.starts;
  clear = λ f. let c = a.clear f in record { edge = c.edge; broken = c.broken; reach = c.reach; over = noted_edge c.over n; later = c.later };
  trailed = λ o os e some ls s g. noted_beside o os (λ c cs f. a.trailed c cs f some ls s g) n e;
}
