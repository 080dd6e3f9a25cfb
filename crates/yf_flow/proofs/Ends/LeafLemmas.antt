-- Offsets of bad escapes; the `:` of a value.
use Rattle.std.proofs.Common.{◌≡◌, ℕ, ◌+◌, Bool, true, false, List, ◌++◌, sym, ◌∙◌, true≢false, subst}
use Rattle.std.proofs.lemmas.List.Elements.{All-append}
use Rattle.std.specs.List.{All}
use Rattle.std.specs.Str.{IsCharBoundary}
use Rattle.yf_chars.specs.declared.context.Ctx.{Ctx}
use Rattle.yf_chars.specs.Text.{code, no_char}
use Rattle.yf_chars.specs.Class.{is_plain_safe}
use Rattle.yf_plain.proofs.PlainLemmas.{safe_at_end}
use Rattle.yf_grammar.specs.FlowReader.Parser.{ColonAt}

-- offsets after others are boundaries too
pub boundaries_more : (t xs ys zs : List ℕ) → zs ≡ xs ++ ys → All (IsCharBoundary t) xs → All (IsCharBoundary t) ys → All (IsCharBoundary t) zs
boundaries_more t xs ys zs e a b = subst (λ ws. All (IsCharBoundary t) ws) (sym e) (All-append (IsCharBoundary t) xs ys a b)

module _ {t : List ℕ} {c : Ctx} {i : ℕ} where
  pub colon_json : (json : Bool) → json ≡ true → code t i ≡ 58 → ColonAt t json c i
  colon_json true e k = record { colon = k; follows = tt }
  colon_json false e k = absurd (true≢false (sym e))

  pub colon_safe : (json : Bool) → json ≡ false → code t i ≡ 58 → is_plain_safe (code t (i + 1)) c ≡ false → ColonAt t json c i
  colon_safe false e k s = record { colon = k; follows = s }
  colon_safe true e k s = absurd (true≢false e)

  pub no_colon : (json : Bool) → json ≡ false → is_plain_safe (code t (i + 1)) c ≡ true → ColonAt t json c i → ⊥
  no_colon false e s a = true≢false (sym s ∙ a.follows)
  no_colon true e s a = true≢false e

  pub colon_at_end : (json : Bool) → code t i ≡ 58 → code t (i + 1) ≡ no_char → ColonAt t json c i
  colon_at_end true k e = record { colon = k; follows = tt }
  colon_at_end false k e = record { colon = k; follows = rw e (safe_at_end c) }
