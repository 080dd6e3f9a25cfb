-- The productions of single-quoted scalars (7.3.2) add to content the text that `Quoted` of yf_quoted derives.
use Rattle.std.proofs.Common.{◌≡◌, ℕ, ◌+◌, ℤ, true, false, List, [], ◌∷◌, ◌++◌, sym, ap, ◌∙◌, subst, arith}
use Rattle.yf_chars.specs.declared.context.Ctx.{Ctx}
use Rattle.yf_chars.specs.Text.{code}
use Rattle.yf_chars.specs.Class.{is_white}
use Rattle.yf_chars.specs.Chain.{Chain, Many}
use Rattle.yf_lines.specs.Basic.{is_flow, is_key, FlowFolded}
use Rattle.yf_quoted.specs.Quoted.{SingleChar}
use Rattle.yf_quoted.specs.Quoted.Item.{set_off}
use Rattle.yf_quoted.specs.Quoted.Rest.{blank, last_break, next_line}
use Rattle.yf_quoted.specs.Quoted.Inside.{as_key, as_lines}
use Rattle.yf_quoted.specs.Quoted.SingleChar.{doubled, unquoted}
use Rattle.yf_standard.specs.Characters.{x, ◌∖◌, nb-json, s-white}
use Rattle.yf_standard.specs.Contents.{Mark, marks, one_char}
use Rattle.yf_standard.specs.Contents.Mark.{char}
use Rattle.yf_standard.proofs.Meant.{Then, Either, Perhaps, Character}
use Rattle.yf_standard.proofs.Meant.Then.{both}
use Rattle.yf_standard.proofs.Meant.Either.{left, right}
use Rattle.yf_standard.proofs.Meant.Perhaps.{missing, given}
use Rattle.yf_standard.proofs.Meant.Character.{character}
use Rattle.yf_standard.proofs.BasicsMeant.{Puts, Spells, spells, marks_append, many_spells, nothing_after}
use Rattle.yf_standard.proofs.BasicsMeant.Puts.{puts}
use Rattle.yf_standard.proofs.BasicsMeant.Spells.{spelled}
use Rattle.yf_standard.proofs.Flows.{SignOf}
use Rattle.yf_standard.proofs.QuotedRead.{SingleItem, SingleRest, SingleInside, nb_json_but, no_white}
use Rattle.yf_standard.proofs.Sets.{white_is}

-- [117] and [118]
abbrev pub TwoQuotes : List ℕ → ℕ → ℕ → Type 0
TwoQuotes t i j = (g : ℕ) × (SignOf t 39 i g × SignOf t 39 g j)

pub single_spells : {t : List ℕ} {i j : ℕ} {y : List Mark} → Either (Puts (char 39 ∷ []) (TwoQuotes t)) (Character t one_char (nb-json ∖ x 39)) i j y → Spells (SingleChar t) i j y
single_spells {t} {i} {j} (left (puts d)) =
    let e : i + 2 ≡ j = omega (arith, d.1.0.1, d.1.1.1) in
    subst (λ z. Spells (SingleChar t) i z (char 39 ∷ [])) e (spelled (doubled d.1.0.0 (ap (code t) d.1.0.1 ∙ d.1.1.0)))
single_spells {t} (right (character {i = i} e)) = let p = nb_json_but 39 (code t i) e in spelled (unquoted p.0 p.1)

-- [119] and [123]
abbrev pub NsSingle : List ℕ → ℕ → ℕ → List Mark → Type 0
NsSingle t i j x = Spells (SingleChar t) i j x × (s-white (code t i) ≡ false)

pub single_item_spells : (t : List ℕ) (i j : ℕ) (x : List Mark) → Then (Chain (Character t one_char s-white)) (NsSingle t) i j x → Spells (SingleItem t) i j x
single_item_spells t i j x (both w d) = go (many_spells {t = t} {s = s-white} {p = is_white} white_is w) d.0 d.1 where
  go : {i h j : ℕ} {x y : List Mark} → Spells (Many t is_white) i h x → Spells (SingleChar t) h j y → s-white (code t h) ≡ false → Spells (SingleItem t) i j (x ++ y)
  go (spelled {x = w} m) (spelled {x = y} c) n = spells _ (set_off m (no_white _ n) c) (marks_append w y)

-- [124]
pub single_rest_spells : {t : List ℕ} {n : ℤ} {i j : ℕ} {x : List Mark} → Either (Spells (SingleRest t n)) (Chain (Character t one_char s-white)) i j x → Spells (SingleRest t n) i j x
single_rest_spells (left r) = r
single_rest_spells {t} {n} (right w) = go (many_spells {t = t} {s = s-white} {p = is_white} white_is w) where
  go : {i j : ℕ} {x : List Mark} → Spells (Many t is_white) i j x → Spells (SingleRest t n) i j x
  go (spelled m) = spelled (blank m)

abbrev pub SingleGoesOn : List ℕ → ℤ → ℕ → ℕ → List Mark → Type 0
SingleGoesOn t n = Then (NsSingle t) (Then (Spells (Chain (SingleItem t))) (Either (Spells (SingleRest t n)) (Chain (Character t one_char s-white))))

pub single_next_spells : {t : List ℕ} {n : ℤ} {i j : ℕ} {x : List Mark} → Then (Spells (FlowFolded t n)) (Perhaps (SingleGoesOn t n)) i j x → Spells (SingleRest t n) i j x
single_next_spells (both (spelled {x = x} f) missing) = spells x (last_break f) (sym (nothing_after (marks x)))
single_next_spells {t} {n} (both f (given (both c (both r e)))) = go f c.0 c.1 r (single_rest_spells e) where
  go : {i h k l j : ℕ} {x y z w : List Mark} → Spells (FlowFolded t n) i h x → Spells (SingleChar t) h k y → s-white (code t h) ≡ false
      → Spells (Chain (SingleItem t)) k l z → Spells (SingleRest t n) l j w → Spells (SingleRest t n) i j (x ++ (y ++ (z ++ w)))
  go (spelled {x = x} f) (spelled {x = y} c) n (spelled {x = z} r) (spelled {x = w} e) =
      spells _ (next_line f (no_white _ n) c r e)
      (marks_append x (y ++ (z ++ w)) ∙ ap (λ u. marks x ++ u) (marks_append y (z ++ w) ∙ ap (λ u. marks y ++ u) (marks_append z w)))

-- [121] and [125]
abbrev pub SingleBetween : List ℕ → ℤ → ℕ → ℕ → List Mark → Type 0
SingleBetween t n i j x = (c : Ctx) → is_flow c ≡ true → Spells (SingleInside t n c) i j x

pub single_multi_spells : {t : List ℕ} {n : ℤ} {i j : ℕ} {x : List Mark}
    → Then (Spells (Chain (SingleItem t))) (Either (Spells (SingleRest t n)) (Chain (Character t one_char s-white))) i j x → SingleBetween t n i j x
single_multi_spells {t} {n} (both r e) = λ c f. go c f r (single_rest_spells e) where
  go : {i h j : ℕ} {x y : List Mark} (c : Ctx) → is_flow c ≡ true → Spells (Chain (SingleItem t)) i h x → Spells (SingleRest t n) h j y → Spells (SingleInside t n c) i j (x ++ y)
  go c f (spelled {x = x} r) (spelled {x = y} e) = spells _ (as_lines f r e) (marks_append x y)

pub single_key_spells : {t : List ℕ} {n : ℤ} {c : Ctx} {i j : ℕ} {x : List Mark} → is_key c ≡ true → Spells (Chain (SingleChar t)) i j x → Spells (SingleInside t n c) i j x
single_key_spells k (spelled r) = spelled (as_key k r)
