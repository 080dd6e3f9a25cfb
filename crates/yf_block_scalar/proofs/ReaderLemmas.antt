-- A block scalar from its parts, or that there is none.
use Rattle.std.proofs.Common.{◌≡◌, ℕ, ℤ, ◌+◌, Bool, false, List, [], length, Some, None, sym, ap, ◌∙◌, subst}
use Rattle.yf_chars.specs.Chain.{Chain, Stuck}
use Rattle.yf_comments.specs.Comment.{CommentValue}
use Rattle.yf_block_scalar.specs.declared.header.Header.{Header}
use Rattle.yf_block_scalar.specs.Body.{Body, BodyValue, EmptyLines, DetectedIndent, Shallow, LinesTaken, Trail, base, least, is_gap_tail, first_noted}
use Rattle.yf_block_scalar.specs.Body.Body.{indicated, detected, without_content}

pub body_indicated : {t : List ℕ} {i p j count k : ℕ} {ls : List (List ℕ)} {o : Bool} {x c : List CommentValue} (n : ℤ) (h : Header) (d : ℕ)
    → h.digit ≡ Some d → k ≡ base n + d → LinesTaken t k i ls o count p → Trail t k p j x → c ≡ first_noted (is_gap_tail h.chomp count) x
    → Body t n h i j (record { lines = ls; open_end = o; tail = count; comments = c })
body_indicated {t} {i} {p} {j} {count} {k} {ls} {o} {x} {c} n h d e q a b s =
    let a' : LinesTaken t (base n + d) i ls o count p = subst (λ w. LinesTaken t w i ls o count p) q a in
    let b' : Trail t (base n + d) p j x = subst (λ w. Trail t w p j x) q b in
    subst (λ w. Body t n h i j (record { lines = ls; open_end = o; tail = count; comments = w })) (sym s) (indicated e a' b')

pub body_detected : {t : List ℕ} {i p j count k : ℕ} {ls : List (List ℕ)} {o : Bool} {x c : List CommentValue} (n : ℤ) (h : Header)
    → h.digit ≡ None → DetectedIndent t n i k → LinesTaken t k i ls o count p → Trail t k p j x → c ≡ first_noted (is_gap_tail h.chomp count) x
    → Body t n h i j (record { lines = ls; open_end = o; tail = count; comments = c })
body_detected {t} {i} {p} {j} {count} {k} {ls} {o} {x} {c} n h e f a b s =
    subst (λ w. Body t n h i j (record { lines = ls; open_end = o; tail = count; comments = w })) (sym s) (detected e f a b)

value_is : {v : BodyValue} {ls : List (List ℕ)} {o : Bool} {count : ℕ} {c : List CommentValue} → v.lines ≡ ls → v.open_end ≡ o → v.tail ≡ count
    → v.comments ≡ c → v ≡ record { lines = ls; open_end = o; tail = count; comments = c }
value_is {v} {ls} {o} {count} {c} a b d e =
    let lines_are : List (List ℕ) → BodyValue = λ w. record { lines = w; open_end = v.open_end; tail = v.tail; comments = v.comments } in
    let open_is : Bool → BodyValue = λ w. record { lines = ls; open_end = w; tail = v.tail; comments = v.comments } in
    let tail_is : ℕ → BodyValue = λ w. record { lines = ls; open_end = o; tail = w; comments = v.comments } in
    let comments_are : List CommentValue → BodyValue = λ w. record { lines = ls; open_end = o; tail = count; comments = w } in
    ap lines_are a ∙ ap open_is b ∙ ap tail_is d ∙ ap comments_are e

pub body_without : {t : List ℕ} {i p j count k : ℕ} {x : List CommentValue} (n : ℤ) (h : Header) (widths : List ℕ) (v : BodyValue)
    → h.digit ≡ None → Chain (EmptyLines t) i p widths → Shallow t n p → length widths ≡ count → k ≡ least n → Trail t k p j x
    → v.comments ≡ first_noted (is_gap_tail h.chomp count) x → v.lines ≡ [] → v.open_end ≡ false → v.tail ≡ count
    → Body t n h i j v
body_without {t} {i} {p} {j} {count} {k} {x} n h widths v e f s l q b c z o m =
    let b' : Trail t (least n) p j x = subst (λ w. Trail t w p j x) q b in
    let made : Body t n h i j (record { lines = []; open_end = false; tail = length widths; comments = first_noted (is_gap_tail h.chomp (length widths)) x }) =
    without_content e f s b' in
    let c' : v.comments ≡ first_noted (is_gap_tail h.chomp (length widths)) x = c ∙ ap (λ w. first_noted (is_gap_tail h.chomp w) x) (sym l) in
    let same : v ≡ record { lines = []; open_end = false; tail = length widths; comments = first_noted (is_gap_tail h.chomp (length widths)) x } = value_is z o (m ∙ sym l) c' in
    subst (λ w. Body t n h i j w) (sym same) made

pub body_none : {t : List ℕ} {i : ℕ} (n : ℤ) (h : Header) → h.digit ≡ None → ((k : ℕ) → DetectedIndent t n i k → ⊥)
    → ((p : ℕ) (ms : List ℕ) → Chain (EmptyLines t) i p ms → Shallow t n p → ⊥) → Stuck (Body t n h i)
body_none {t} {i} n h e f s = record { none = λ j x b. none b } where
  none : {j : ℕ} {x : BodyValue} → Body t n h i j x → ⊥
  none (indicated q a b) = cc
  none (detected {k = k} q d a b) = f k d
  none (without_content {p = p} {widths = widths} q a d b) = s p widths a d

-- the lines of a scalar, from equal ones
pub same_taken : {t : List ℕ} {i p k m n : ℕ} {xs ys : List (List ℕ)} {a b : Bool} → ys ≡ xs → b ≡ a → n ≡ m → LinesTaken t k i xs a m p
    → LinesTaken t k i ys b n p
same_taken {t} {i} {p} {k} {m} {n} {xs} {ys} {a} {b} e f g d =
    let one : LinesTaken t k i ys a m p = subst (λ w. LinesTaken t k i w a m p) (sym e) d in
    let two : LinesTaken t k i ys b m p = subst (λ w. LinesTaken t k i ys w m p) (sym f) one in
    subst (λ w. LinesTaken t k i ys b w p) (sym g) two
