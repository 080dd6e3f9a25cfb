-- From a vector's mask to line feeds.
use Rattle.std.proofs.Common.{◌≡◌, ℕ, zero, suc, ◌+◌, ◌<◌, ◌≤◌, ◌==◌, ◌||◌, Bool, true, false, true≢false, eqb, List, [], ◌∷◌, length, refl, sym, ◌∙◌, arith}
use Rattle.std.specs.Prelude.{◌≢◌, not, slice_index}
use Rattle.std.specs.List.{list_any}
use Rattle.yf_chars.proofs.LaneMasks.{mask_of, none_under, is_empty}
use Rattle.yf_chars.specs.Signs.{LINE_FEED}
use Rattle.yf_lines.specs.Feeds.{TellsClear}
use Rattle.yf_lines.specs.Steady.{has_line_feed}

pub clear_lanes : (d : List ℕ) (i n : ℕ) → i + n ≤ length d → n ≤ 64 → (b : Bool) → (b ≡ true → mask_of eqb d i n 10 ≡ 0) → (b ≡ false → mask_of eqb d i n 10 ≢ 0)
    → TellsClear b d i (i + n)
clear_lanes d i n room few false clear some = λ all. some refl (is_empty d i n 10 room few eqb all)
clear_lanes d i n room few true clear some = none_under d i n 10 room few eqb (clear refl)

any_of : (a b : Bool) → (a || b) ≡ false → (a ≡ false) × (b ≡ false)
any_of false b e = (refl, e)
any_of true b e = absurd (true≢false e)

none_in : (t : List ℕ) → list_any (λ c. c == LINE_FEED) t ≡ false → (k : ℕ) → k < length t → (slice_index t k == LINE_FEED) ≡ false
none_in [] e k l = absurd (omega (arith, l))
none_in (x ∷ xs) e zero l = (any_of _ _ e).0
none_in (x ∷ xs) e (suc k) l = none_in xs (any_of _ _ e).1 k (omega (arith, l))

in_none : (t : List ℕ) → ((k : ℕ) → k < length t → (slice_index t k == LINE_FEED) ≡ false) → list_any (λ c. c == LINE_FEED) t ≡ false
in_none [] none = refl
in_none (x ∷ xs) none = rw (none 0 (omega arith)) (in_none xs (λ k l. none (suc k) (omega (arith, l))))

by_answer : (t : List ℕ) (b a : Bool) → list_any (λ c. c == LINE_FEED) t ≡ a → TellsClear b t 0 (length t) → not b ≡ a
by_answer t false true e told = refl
by_answer t false false e told = absurd (told (λ k _ l. none_in t e k l))
by_answer t true a e told = sym (in_none t (λ k l. told k (omega arith) l)) ∙ e

pub tells_whole : (t : List ℕ) (b : Bool) → TellsClear b t 0 (length t) → not b ≡ has_line_feed t
unfolding has_line_feed
tells_whole t b told = by_answer t b _ refl told
