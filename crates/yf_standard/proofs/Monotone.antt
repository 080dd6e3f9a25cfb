-- A derivation under stronger conditions is one under weaker ones; and a production never ends before its start.
use Rattle.std.proofs.Common.{ℕ, ◌≤◌, List, arith}
use Rattle.std.proofs.lemmas.Int.{ints}
use Rattle.std.proofs.Common.{ℤ, pos, ◌≤ℤ◌}
use Rattle.yf_standard.specs.Rules.{read, letter, AutoDetect}
use Rattle.yf_standard.specs.Rules.AutoDetect.{by_first_line, without_content}
use Rattle.yf_block_scalar.specs.Body.{least}
use Rattle.yf_standard.specs.Notation.Condition.{start-of-line, end-of-input, lookahead=, lookahead≠, lookbehind=, auto-detect, is-sum}
use Rattle.yf_standard.specs.Notation.{Form, Condition}
use Rattle.yf_standard.specs.Literal.{Derived}
use Rattle.yf_standard.specs.Literal.Derived.{by_rule, by_collection, nothing, one_of, one_then, in_left, in_right, absent, present, no_more, one_more, at_least_one, without, where_holds, for_some_m, for_some_k, within, clear_of_markers}
use Rattle.yf_chars.proofs.TextLemmas.{next_later}

pub weaker : {L M : Condition → ℕ → Type 0} {t : List ℕ} {e : ℕ} {f : Form} {i j : ℕ} → ((c : Condition) (i : ℕ) → L c i → M c i) → Derived L t e f i j → Derived M t e f i j
weaker w (by_rule e d) = by_rule e (weaker w d)
weaker w (by_collection e l d) = by_collection e l (weaker w d)
weaker w nothing = nothing
weaker w (one_of e) = one_of e
weaker w (one_then d e) = one_then (weaker w d) (weaker w e)
weaker w (in_left d) = in_left (weaker w d)
weaker w (in_right d) = in_right (weaker w d)
weaker w absent = absent
weaker w (present d) = present (weaker w d)
weaker w no_more = no_more
weaker w (one_more d e) = one_more (weaker w d) (weaker w e)
weaker w (at_least_one d e) = at_least_one (weaker w d) (weaker w e)
weaker w (without d e) = without (weaker w d) e
weaker w (where_holds {c = c} {i = i} h) = where_holds (w c i h)
weaker w (for_some_m m d) = for_some_m m (weaker w d)
weaker w (for_some_k k d) = for_some_k k (weaker w d)
weaker w (within d e) = within (weaker w d) e
weaker w (clear_of_markers d e) = clear_of_markers (weaker w d) e

pub forward : {L : Condition → ℕ → Type 0} {t : List ℕ} {e : ℕ} {f : Form} {i j : ℕ} → Derived L t e f i j → i ≤ j
forward (by_rule e d) = forward d
forward (by_collection e l d) = forward d
forward nothing = omega arith
forward {t = t} (one_of {i = i} e) = let a = next_later t i in omega arith
forward (one_then d e) = let a = forward d in let b = forward e in omega arith
forward (in_left d) = forward d
forward (in_right d) = forward d
forward absent = omega arith
forward (present d) = forward d
forward no_more = omega arith
forward (one_more d e) = let a = forward d in let b = forward e in omega arith
forward (at_least_one d e) = let a = forward d in let b = forward e in omega arith
forward (without d e) = forward d
forward (where_holds h) = omega arith
forward (for_some_m m d) = forward d
forward (for_some_k k d) = forward d
forward (within d e) = forward d
forward (clear_of_markers d e) = forward d

detected_deep : {t : List ℕ} {n k : ℤ} {i : ℕ} → AutoDetect t n i k → pos (least n) ≤ℤ k
detected_deep (by_first_line d) = let a = d.first.deep in omega (arith, ints, a)
detected_deep (without_content c s w l n) = omega (arith, ints, l)

asks_less : (t : List ℕ) (c : Condition) (i : ℕ) → read t c i → letter t c i
unfolding read letter
asks_less t start-of-line i h = h
asks_less t end-of-input i h = h
asks_less t (lookahead= s) i h = h
asks_less t (lookahead≠ s) i h = h
asks_less t (lookbehind= s) i h = h
asks_less t (is-sum n m k) i h = h
asks_less t (auto-detect n k) i h = detected_deep h
asks_less t c i h = tt

-- the standard derives what the reading rules allow
pub rules_only_restrict : {t : List ℕ} {e : ℕ} {f : Form} {i j : ℕ} → Derived (read t) t e f i j → Derived (letter t) t e f i j
rules_only_restrict {t} d = weaker (asks_less t) d
