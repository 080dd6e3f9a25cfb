-- How long a formatted text may be, in numbers: a text of up to 521,739 bytes has no formatting of more than 1 GiB if
-- `indent` is 2, and one of up to 130,815 bytes has none with any `indent`.
use Rattle.std.proofs.Common.{◌≡◌, ℕ, suc, ◌+◌, ◌*◌, ◌≤◌, List, length, arith}
use Rattle.std.proofs.Math.Nat.{mul-le-mul}
use Rattle.yf_events.specs.declared.reading.TheConstants.{DEPTH}
use Rattle.yf_forms.specs.declared.style.Style.{Style}
use Rattle.yf_laws.specs.Preservation.SizeKept.{SizeKept}

-- 1 GiB
abbrev GIB : ℕ
GIB = 1073741824

within : (t : List ℕ) (s : Style) (u : List ℕ) (n m : ℕ) → SizeKept t s u → length t ≤ n → s.indent ≤ m → suc n * (m * suc DEPTH + 8) ≤ GIB → length u ≤ GIB
within t s u n m a l k g =
    let size = a.at_most in
    let wide : s.indent * suc DEPTH ≤ m * suc DEPTH = mul-le-mul k (omega arith) in
    let all : suc (length t) * (s.indent * suc DEPTH + 8) ≤ suc n * (m * suc DEPTH + 8) = mul-le-mul (omega (arith, l)) (omega (arith, wide)) in
    omega (arith, size, all, g)

pub at_two : (t : List ℕ) (s : Style) (u : List ℕ) → SizeKept t s u → s.indent ≡ 2 → length t ≤ 521739 → length u ≤ GIB
at_two t s u a e l = within t s u 521739 2 a l (omega (arith, e)) (omega arith)

pub anywhere : (t : List ℕ) (s : Style) (u : List ℕ) → SizeKept t s u → length t ≤ 130815 → length u ≤ GIB
anywhere t s u a l = let most = s.indent_to in within t s u 130815 8 a l most (omega arith)
