-- Laws of the white space at the end of a span, and of comments close after other text.
use Rattle.std.proofs.Common.{◌≡◌, ◌≢◌, ℕ, ◌+◌, ◌-◌, ◌<◌, ◌≤◌, true, false, List, ◌∷◌, Some, length, map, get_or, sym, subst, ap, ◌∙◌, ⊎_elim, arith, true≢false}
use Rattle.std.specs.Prelude.{slice_get, option_map, ◌==◌, MatchBool}
use Rattle.std.proofs.lemmas.Bool.{cases_lt, cases_eq, eq-eqb, ne_eqb}
use Rattle.std.proofs.lemmas.List.{length-map}
use Rattle.std.proofs.lemmas.Option.{slice_get_within, slice_get-map, slice_get-get_or, same_Some}
use Rattle.yf_chars.specs.Chain.{Many}
use Rattle.yf_chars.specs.Chain.Chain.{done, step}
use Rattle.yf_chars.specs.Chain.One.{one}
use Rattle.yf_chars.specs.Class.{is_white}
use Rattle.yf_chars.specs.Text.{code, next, CharAt}
use Rattle.yf_chars.proofs.TextLemmas.{next_ascii, code-past}
use Rattle.yf_chars.proofs.ChainLemmas.{chain_forward, one_functional}
use Rattle.yf_comments.specs.Comment.{CommentValue, comment_value}
use Rattle.yf_comments.specs.declared.comment.Comment.{Comment}
use Rattle.yf_events.specs.declared.lists.Lists.{Lists}
use Rattle.yf_lines.specs.Basic.{LineStart}
use Rattle.yf_lines.proofs.BasicLemmas.{white_below}
use Rattle.yf_rule_sets.specs.RuleSets.Exact.{Sole}
use Rattle.yf_rule_sets.specs.RuleSets.Whites.{WhitesEnd, TwoSpaces, IsClose, CloseComment}
use Rattle.yf_rule_sets.specs.RuleSets.Whites.IsClose.{close}
use Rattle.yf_rule_sets.specs.RuleSets.Whites.CloseComment.{of_comment}

-- each character of a run of white space is white
pub white_within : {t : List ℕ} {i j : ℕ} {x : List ℕ} (h : ℕ) → Many t is_white i j x → i ≤ h → h < j → is_white (code t h) ≡ true
white_within h done a b = absurd (omega arith)
white_within {t} {i} {j} h (step (one e) c) a b =
    ⊎_elim (λ (q : h ≡ i). subst (λ k. is_white (code t k) ≡ true) (sym q) e)
    (λ (n : h ≢ i). let m : next t i ≡ i + 1 = next_ascii t i (white_below (code t i) e) in white_within h c (omega (arith, m, n, a)) b)
    (cases_eq h i)

-- the start of the white space is unique
no_later : (t : List ℕ) (start end i j : ℕ) → WhitesEnd t start end i → WhitesEnd t start end j → j ≤ end → i < j → ⊥
no_later t start end i j a b w l =
    ⊎_elim (λ (e : j ≡ start). absurd (let f = a.from in omega (arith, e, f, l)))
    (λ (e : is_white (code t (j - 1)) ≡ false). true≢false (sym (white_within (j - 1) a.run (omega (arith, l)) (omega (arith, l, w))) ∙ e))
    b.first

pub whites_unique : (t : List ℕ) (start end i j : ℕ) → WhitesEnd t start end i → WhitesEnd t start end j → i ≡ j
whites_unique t start end i j a b =
    ⊎_elim (λ (l : i < j). absurd (no_later t start end i j a b (chain_forward (one_functional t is_white) b.run) l))
    (λ (l : j ≤ i). ⊎_elim (λ (m : j < i). absurd (no_later t start end j i b a (chain_forward (one_functional t is_white) a.run) m)) (λ (m : i ≤ j). omega (arith, l, m)) (cases_lt j i))
    (cases_lt i j)

-- one more character of white space before those found so far
pub one_before : (t : List ℕ) (at end : ℕ) (x : List ℕ) → 0 < at → Many t is_white at end x → CharAt t (at - 1) (code t (at - 1)) (at - 1 + 1) → is_white (code t (at - 1)) ≡ true
    → Many t is_white (at - 1) end (code t (at - 1) ∷ x)
one_before t at end x p m r e =
    let q : next t (at - 1) ≡ at = r.end ∙ (let z : at - 1 + 1 ≡ at = omega arith in z) in
    step (one e) (subst (λ k. Many t is_white k end x) (sym q) m)

-- no white space is past the end of the text
pub no_white_past : (t : List ℕ) (i : ℕ) → length t ≤ i → is_white (code t i) ≡ false
unfolding is_white
no_white_past t i h = ap is_white (code-past t i h)

pub at_line_start : (t : List ℕ) (offset at : ℕ) → WhitesEnd t 0 offset at → LineStart t at → IsClose t offset → ⊥
at_line_start t offset at w s (close {at = k} v n d) = n (subst (LineStart t) (whites_unique t 0 offset at k w v) s)

pub at_two_spaces : (t : List ℕ) (offset at : ℕ) → WhitesEnd t 0 offset at → TwoSpaces t at offset → IsClose t offset → ⊥
at_two_spaces t offset at w s (close {at = k} v n d) = d (subst (λ m. TwoSpaces t m offset) (whites_unique t 0 offset at k w v) s)

pub close_comment : (t : List ℕ) (r : Lists) (k : ℕ) (c : CommentValue) → slice_get r.comments k ≡ Some c → IsClose t c.offset → Sole (CloseComment t r k) c.offset
close_comment t r k c e h = record { holds = of_comment e h; only = λ o d. same d } where
  same : {o : ℕ} → CloseComment t r k o → o ≡ c.offset
  same (of_comment {c = d} f g) = ap (λ v. v.offset) (same_Some _ _ (sym f ∙ e))

pub not_close : (t : List ℕ) (r : Lists) (k : ℕ) (c : CommentValue) → slice_get r.comments k ≡ Some c → (IsClose t c.offset → ⊥) → (o : ℕ) → CloseComment t r k o → ⊥
not_close t r k c e n o (of_comment {c = d} f g) = n (subst (λ v. IsClose t v.offset) (same_Some _ _ (sym f ∙ e)) g)

pub comment_within : {t : List ℕ} {r : Lists} {k o : ℕ} → CloseComment t r k o → k < length r.comments
comment_within {t} {r} {k} (of_comment {c} e h) = slice_get_within r.comments k c e

-- the comments in the code
pub comment_at : (r : Lists) (cs : List Comment) (k : ℕ) (d : Comment) → map comment_value cs ≡ r.comments → k < length r.comments
    → slice_get r.comments k ≡ Some (comment_value (get_or cs k d))
comment_at r cs k d e l =
    let n : k < length cs = omega (arith, ap length e, length-map cs comment_value, l) in
    subst (λ ds. slice_get ds k ≡ Some (comment_value (get_or cs k d))) e (slice_get-map comment_value cs k ∙ ap (option_map comment_value) (slice_get-get_or cs k d n))

pub close_read : (t u : List ℕ) (r : Lists) (cs : List Comment) (k : ℕ) (d : Comment) → u ≡ t → map comment_value cs ≡ r.comments → k < length r.comments
    → IsClose u (get_or cs k d).offset → Sole (CloseComment t r k) (get_or cs k d).offset
close_read t u r cs k d q e l h =
    close_comment t r k (comment_value (get_or cs k d)) (comment_at r cs k d e l) (subst (λ v. IsClose v (get_or cs k d).offset) q h)

pub open_read : (t u : List ℕ) (r : Lists) (cs : List Comment) (k : ℕ) (d : Comment) → u ≡ t → map comment_value cs ≡ r.comments → k < length r.comments
    → (IsClose u (get_or cs k d).offset → ⊥) → (o : ℕ) → CloseComment t r k o → ⊥
open_read t u r cs k d q e l n o h =
    not_close t r k (comment_value (get_or cs k d)) (comment_at r cs k d e l) (subst (λ v. IsClose v (get_or cs k d).offset → ⊥) q n) o h

pub comment_count : (r : Lists) (cs : List Comment) → map comment_value cs ≡ r.comments → length cs ≡ length r.comments
comment_count r cs e = sym (length-map cs comment_value) ∙ ap length e

-- whether a span holds only white space
pub white_line : (t : List ℕ) (start end at : ℕ) → WhitesEnd t start end at → MatchBool (at == start) (WhitesEnd t start end start) (WhitesEnd t start end start → ⊥)
white_line t start end at w = ⊎_elim
    (λ (e : at ≡ start). rw (eq-eqb at start e) (subst (λ k. WhitesEnd t start end k) e w))
    (λ (e : at ≢ start). rw (ne_eqb at start e) (λ v. e (whites_unique t start end at start w v)))
    (cases_eq at start)
