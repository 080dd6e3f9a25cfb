-- The steps of the output in the code.
use Rattle.std.proofs.Common.{◌≡◌, ℕ, zero, suc, ◌+◌, ◌-◌, ◌<◌, ◌≤◌, Bool, true, false, List, [], ◌∷◌, length, map, get_or, take, drop, Option, Some, refl, sym, ap, ◌∙◌, arith, add-one}
use Rattle.std.specs.Prelude.{slice_get}
use Rattle.yf_comments.specs.Comment.{CommentValue, comment_value}
use Rattle.yf_comments.specs.declared.comment.Comment.{Comment}
use Rattle.yf_print.specs.Passes.Drafts.{Draft, Remarks, trailing_at, trailing_if, between, line_column, own_line_if, own_lines}
use Rattle.yf_forms.specs.Nodes.Lines.{after_two_spaces}

-- a comment at an index

after_one : (xs : List Comment) (k : ℕ) (e : Comment) → k < length xs
    → after_two_spaces (comment_value (get_or xs k e)) ≡ trailing_at (slice_get (map comment_value xs) k)
after_one [] k e l = absurd (omega arith)
after_one (y ∷ xs) zero e l = refl
after_one (y ∷ xs) (suc k) e l = after_one xs k e (omega arith)

pub after_some : (xs : List Comment) (o : Option ℕ) (k : ℕ) (e : Comment) → o ≡ Some k → k < length xs
    → after_two_spaces (comment_value (get_or xs k e)) ≡ trailing_if (map comment_value xs) o
after_some xs o k e h l = after_one xs k e l ∙ ap (trailing_if (map comment_value xs)) (sym h)

-- comments on lines of their own

one_between : (xs : List Comment) (k end : ℕ) (e : Comment) → k < end → end ≤ length xs
    → between k end (map comment_value xs) ≡ comment_value (get_or xs k e) ∷ between (suc k) end (map comment_value xs)
one_between xs k zero e l b = absurd (omega arith)
one_between [] k (suc end) e l b = absurd (omega arith)
one_between (x ∷ xs) zero (suc end) e l b =
    let n : suc end - 0 ≡ suc end = omega arith in
    let m : suc end - 1 ≡ end = omega arith in
    ap (λ w. take w (comment_value x ∷ map comment_value xs)) n ∙ ap (λ w. comment_value x ∷ take w (map comment_value xs)) (sym m)
one_between (x ∷ xs) (suc k) (suc end) e l b =
    let n : suc end - suc k ≡ end - k = omega arith in
    let m : suc end - suc (suc k) ≡ end - suc k = omega arith in
    ap (λ w. take w (drop k (map comment_value xs))) n
    ∙ (one_between xs k end e (omega arith) (omega arith) ∙ ap (λ w. comment_value (get_or xs k e) ∷ take w (drop (suc k) (map comment_value xs))) (sym m))

pub own_on : (r : Remarks) (next : ℕ) (trailing : List Bool) (h : CommentValue → ℕ) (k end : ℕ) (xs : List Comment) (e : Comment) (b : Bool) (column : ℕ) (d new all : Draft) → k < end → end ≤ length xs
    → b ≡ get_or trailing k false → column ≡ line_column r next d (comment_value (get_or xs k e)) → ((c : CommentValue) → line_column r next d c ≡ h c) → new ≡ own_line_if b column (comment_value (get_or xs k e)) d
    → own_lines trailing h k (between k end (map comment_value xs)) d ≡ all
    → own_lines trailing h (k + 1) (between (k + 1) end (map comment_value xs)) new ≡ all
unfolding own_lines
own_on r next trailing h k end xs e is column d new all l b t own stays n f =
    let c : CommentValue = comment_value (get_or xs k e) in
    ap (own_lines trailing h (k + 1) (between (k + 1) end (map comment_value xs))) (n ∙ (ap (λ w. own_line_if w column c d) t ∙ ap (λ w. own_line_if (get_or trailing k false) w c d) (own ∙ stays c)))
    ∙ (ap (λ w. own_lines trailing h (k + 1) (between w end (map comment_value xs)) (own_line_if (get_or trailing k false) (h c) c d)) (add-one k)
    ∙ (ap (λ w. own_lines trailing h k w d) (sym (one_between xs k end e l b)) ∙ f))

pub own_end : (trailing : List Bool) (h : CommentValue → ℕ) (k end : ℕ) (cs : List CommentValue) (d all : Draft) → end ≤ k
    → own_lines trailing h k (between k end cs) d ≡ all → d ≡ all
unfolding own_lines
own_end trailing h k end cs d all l f =
    let none : end - k ≡ 0 = omega arith in
    ap (λ w. own_lines trailing h k (take w (drop k cs)) d) (sym none) ∙ f

-- printing a comment on its line changes no column
pub column_stays : (r : Remarks) (column : ℕ) (b : Bool) (n : ℕ) (c : CommentValue) (d new first : Draft) → new ≡ own_line_if b n c d
    → ((e : CommentValue) → line_column r column d e ≡ line_column r column first e) → (e : CommentValue) → line_column r column new e ≡ line_column r column first e
column_stays r column b n c d new first h k e = ap (λ w. line_column r column w e) h ∙ (by b ∙ k e) where
  by : (b : Bool) → line_column r column (own_line_if b n c d) e ≡ line_column r column d e
  by true = refl
  by false = refl
