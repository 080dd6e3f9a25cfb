-- The laws of `TokenLaws`: the comments and names of a derivation.
use Rattle.std.proofs.Common.{◌≡◌, ℕ, List, [], ◌∷◌, refl, arith}
use Rattle.yf_comments.specs.Comment.{CommentValue}
use Rattle.yf_comments.specs.Comments.{LineEnd, Separate}
use Rattle.yf_props.specs.Names.{Alias}
use Rattle.yf_standard.specs.Tokens.{Token, tokens, notes}
use Rattle.yf_standard.specs.Tokens.Token.{an_alias}
use Rattle.yf_standard.specs.TokenLaws.{CommentTokens, SeparateTokens, AliasTokens, PropertyTokens}
use Rattle.yf_standard.proofs.Meant.{means}
use Rattle.yf_standard.proofs.CommentsMeant.{Noted}
use Rattle.yf_standard.proofs.CommentsMeant.Noted.{noted}
use Rattle.yf_standard.proofs.NamesMeant.{Aliased}
use Rattle.yf_standard.proofs.NamesMeant.Aliased.{aliased}
use Rattle.yf_standard.proofs.TokensAdded.{Has, names}
use Rattle.yf_standard.proofs.ContentLawsHold.{zone}

with_comments : {S : ℕ → ℕ → List CommentValue → Type 0} {i j : ℕ} {y : List Token} → Noted S i j y → (x : List CommentValue) × (S i j x × (y ≡ notes x))
with_comments (noted {x = x} s) = (x, (s, refl))

pub comment_tokens : CommentTokens
unfolding Has
comment_tokens t e i j u d = let m : Noted (LineEnd t) i j (tokens d) = means (names t (zone t u j)) (omega arith) (omega arith) d in with_comments m

pub separate_tokens : SeparateTokens
unfolding Has
separate_tokens t e i j n c u d = let m : Noted (Separate t n c) i j (tokens d) = means (names t (zone t u j)) (omega arith) (omega arith) d in with_comments m

pub alias_tokens : AliasTokens
unfolding Has
alias_tokens t e i j u d = go (means (names t (zone t u j)) (omega arith) (omega arith) d) where
  go : {y : List Token} → Aliased t i j y → (x : List ℕ) × (Alias t i j x × (y ≡ an_alias i x ∷ []))
  go (aliased {name = x} a) = (x, (a, refl))

pub property_tokens : PropertyTokens
unfolding Has
property_tokens t e i j n c u d = means (names t (zone t u j)) (omega arith) (omega arith) d
