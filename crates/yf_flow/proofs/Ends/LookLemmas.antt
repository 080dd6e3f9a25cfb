-- Tests at an offset.
use Rattle.std.proofs.Common.{◌≡◌, ◌≢◌, ℕ, Bool, true, false, ◌==◌, ◌||◌, arith}
use Rattle.std.proofs.lemmas.Bool.Decides.{nat_tests}
use Rattle.yf_grammar.specs.FlowReader.Parser.{begins_content}

module _ {c : ℕ} where
  pub single_begins : c ≡ 39 → true ≡ begins_content c
  unfolding begins_content
  single_begins e = grind (arith, nat_tests)

  pub double_begins : c ≡ 34 → true ≡ begins_content c
  unfolding begins_content
  double_begins e = grind (arith, nat_tests)

  pub sequence_begins : c ≡ 91 → true ≡ begins_content c
  unfolding begins_content
  sequence_begins e = grind (arith, nat_tests)

  pub mapping_begins : c ≡ 123 → true ≡ begins_content c
  unfolding begins_content
  mapping_begins e = grind (arith, nat_tests)

  pub nothing_begins : c ≢ 39 → c ≢ 34 → c ≢ 91 → c ≢ 123 → false ≡ begins_content c
  unfolding begins_content
  nothing_begins a b d e = grind (arith, nat_tests)

  pub end_comma : c ≡ 44 → true ≡ ((c == 44) || (c == 93) || (c == 125))
  end_comma e = grind (arith, nat_tests)

  pub end_bracket : c ≡ 93 → true ≡ ((c == 44) || (c == 93) || (c == 125))
  end_bracket e = grind (arith, nat_tests)

  pub end_last : {b : Bool} → c ≢ 44 → c ≢ 93 → b ≡ (c == 125) → b ≡ ((c == 44) || (c == 93) || (c == 125))
  end_last a d e = rw e (grind (arith, nat_tests))
