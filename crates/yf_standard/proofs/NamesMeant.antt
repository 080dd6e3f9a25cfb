-- The names in node properties and aliases (6.8.2, 6.9 and 7.1) are those that are read.
use Rattle.std.proofs.Common.{◌≡◌, ℕ, ◌+◌, ◌-◌, ◌<◌, ◌≤◌, ℤ, List, [], ◌∷◌, ◌++◌, length, slice_range, drop, refl, sym, ap, ◌∙◌, subst, append-nil, arith}
use Rattle.std.proofs.lemmas.List.{length-drop, length-take}
use Rattle.yf_chars.specs.declared.context.Ctx.{Ctx}
use Rattle.yf_chars.specs.Class.{is_tag_char}
use Rattle.yf_chars.specs.Chain.{Chain, Stuck}
use Rattle.yf_chars.specs.Chain.Chain.{done, step}
use Rattle.yf_comments.specs.Comment.{CommentValue}
use Rattle.yf_comments.specs.Comments.{Separate}
use Rattle.yf_props.specs.Props.{TagValue}
use Rattle.yf_props.specs.Props.TagValue.{IsVerbatim, IsShort, IsNonSpecific}
use Rattle.yf_props.specs.Names.{TagChar, Anchor, Alias, Handle, VerbatimTag, TagProperty, tag_only, anchor_only, tag_with_anchor}
use Rattle.yf_props.specs.Names.Anchor.{ampersand_name}
use Rattle.yf_props.specs.Names.Alias.{asterisk_name}
use Rattle.yf_props.specs.Names.Handle.{primary_handle, secondary_handle, named_handle}
use Rattle.yf_props.specs.Names.VerbatimTag.{in_brackets}
use Rattle.yf_props.specs.Names.ShorthandTag.{handle_suffix}
use Rattle.yf_props.specs.Names.TagProperty.{verbatim_tag, shorthand_tag, non_specific_tag}
use Rattle.yf_props.specs.Names.Properties.{by_tag, by_anchor, tag_first, anchor_first}
use Rattle.yf_standard.specs.Tokens.{Token, notes, shorthand, comments_among, anchor_among, tag_among, tag_place_among}
use Rattle.yf_standard.specs.Tokens.Token.{a_comment, an_anchor, an_alias, a_tag, a_handle}
use Rattle.yf_standard.specs.TokenLaws.{PropertiesMean}
use Rattle.yf_standard.proofs.Meant.{Then, Either, Perhaps, Several, Here}
use Rattle.yf_standard.proofs.Meant.Then.{both}
use Rattle.yf_standard.proofs.Meant.Either.{left, right}
use Rattle.yf_standard.proofs.Meant.Perhaps.{missing, given}
use Rattle.yf_standard.proofs.Meant.Several.{several}
use Rattle.yf_standard.proofs.Meant.Here.{here}
use Rattle.yf_standard.proofs.Reading.{Star}
use Rattle.yf_standard.proofs.Reading.Star.{none, more}
use Rattle.yf_standard.proofs.Basics.{SomeOf}
use Rattle.yf_standard.proofs.Flows.{SignOf}
use Rattle.yf_standard.proofs.Properties.{spelled_run}
use Rattle.yf_standard.proofs.CommentsMeant.{Noted}
use Rattle.yf_standard.proofs.CommentsMeant.Noted.{noted}
use Rattle.yf_chars.proofs.TextLemmas.{within_from_code}

pub data Anchored (t : List ℕ) (i j : ℕ) : List Token → Type 0 where
  anchored : {name : List ℕ} → Anchor t i j name → Anchored t i j (an_anchor name ∷ [])

pub data Aliased (t : List ℕ) (i j : ℕ) : List Token → Type 0 where
  aliased : {name : List ℕ} → Alias t i j name → Aliased t i j (an_alias i name ∷ [])

pub data Handled (t : List ℕ) (i j : ℕ) : List Token → Type 0 where
  handled : Handle t i j → Handled t i j (a_handle (slice_range t i j) ∷ [])

pub data Tagged (t : List ℕ) (i j : ℕ) : List Token → Type 0 where
  tagged : {tag : TagValue} → TagProperty t i j tag → Tagged t i j (a_tag i tag ∷ [])

-- [101] and [104]
pub anchor_means : {t : List ℕ} {i j : ℕ} → SomeOf (Anchor t) i j → Anchored t i j (an_anchor (slice_range t (i + 1) j) ∷ [])
anchor_means {t} d = go d.1 where
  go : {i j : ℕ} {x : List ℕ} → Anchor t i j x → Anchored t i j (an_anchor (slice_range t (i + 1) j) ∷ [])
  go (ampersand_name e r) = anchored (ampersand_name e r)

pub alias_means : {t : List ℕ} {i j : ℕ} → SomeOf (Alias t) i j → Aliased t i j (an_alias i (slice_range t (i + 1) j) ∷ [])
alias_means {t} d = go d.1 where
  go : {i j : ℕ} {x : List ℕ} → Alias t i j x → Aliased t i j (an_alias i (slice_range t (i + 1) j) ∷ [])
  go (asterisk_name e r) = aliased (asterisk_name e r)

-- [98]
pub verbatim_means : {t : List ℕ} {i j : ℕ} → SomeOf (VerbatimTag t) i j → Tagged t i j (a_tag i (IsVerbatim (slice_range t (i + 2) (j - 1))) ∷ [])
verbatim_means {t} d = go d.1 where
  go : {i j : ℕ} {x : List ℕ} → VerbatimTag t i j x → Tagged t i j (a_tag i (IsVerbatim (slice_range t (i + 2) (j - 1))) ∷ [])
  go {i} (in_brackets {j = k} a b r c) =
      let e : k ≡ k + 1 - 1 = omega arith in
      subst (λ z. Tagged t i (k + 1) (a_tag i (IsVerbatim (slice_range t (i + 2) z)) ∷ [])) e (tagged (verbatim_tag (in_brackets a b r c)))

slice_long : (t : List ℕ) (i j : ℕ) → j ≤ length t → length (slice_range t i j) ≡ j - i
slice_long t i j l = omega (arith, length-take (j - i) (drop i t), length-drop i t, l)

-- [99]: the suffix begins at the end of the handle
handle_long : {t : List ℕ} {i j : ℕ} → Handle t i j → i + length (slice_range t i j) ≡ j
handle_long {t} {i} {j} h = long (ends h) (later h) where
  ends : {i j : ℕ} → Handle t i j → j ≤ length t
  ends (primary_handle {i = i} e) = let l : i < length t = within_from_code t i (omega (arith, e)) in omega (arith, l)
  ends (secondary_handle {i = i} e f) = let l : i + 1 < length t = within_from_code t (i + 1) (omega (arith, f)) in omega (arith, l)
  ends (named_handle {j = k} e r f) = let l : k < length t = within_from_code t k (omega (arith, f)) in omega (arith, l)

  later : {i j : ℕ} → Handle t i j → i ≤ j
  later (primary_handle e) = omega arith
  later (secondary_handle e f) = omega arith
  later (named_handle e r f) = let l = r.some in omega (arith, l)

  long : j ≤ length t → i ≤ j → i + length (slice_range t i j) ≡ j
  long l m = let q = slice_long t i j l in omega (arith, m, q)

pub shorthand_means : {t : List ℕ} {i j : ℕ} {y : List Token} → Then (Handled t) (Then (Several (λ i j y. SomeOf (TagChar t) i j)) (Here (λ i. Stuck (TagChar t i)))) i j y
    → Tagged t i j (a_tag i (shorthand t i j y) ∷ [])
unfolding shorthand
shorthand_means {t} (both h (both (several {x = a} {y = b} c r) (here n))) = go ((a ++ b) ++ []) h c (stars r) n where
  stars : {i j : ℕ} {y : List Token} → Chain (λ i j y. SomeOf (TagChar t) i j) i j y → Star (SomeOf (TagChar t)) i j
  stars done = none
  stars (step c r) = more c (stars r)

  go : {i h k j : ℕ} {u : List Token} (v : List Token) → Handled t i h u → SomeOf (TagChar t) h k → Star (SomeOf (TagChar t)) k j → Stuck (TagChar t j) → Tagged t i j (a_tag i (shorthand t i j (u ++ v)) ∷ [])
  go {i} {h} {k} {j} v (handled a) c r n =
      subst (λ z. Tagged t i j (a_tag i (IsShort (slice_range t i h) (slice_range t z j)) ∷ [])) (sym (handle_long a))
      (tagged (shorthand_tag (handle_suffix a (spelled_run t is_tag_char h k j c r n))))

-- [100]
pub non_specific_means : {t : List ℕ} {i j : ℕ} → (g : ℕ) × (SignOf t 33 i g × (Stuck (TagChar t g) × (g ≡ j))) → Tagged t i j (a_tag i IsNonSpecific ∷ [])
non_specific_means {t} {i} {j} d =
    subst (λ z. Tagged t i z (a_tag i IsNonSpecific ∷ [])) (d.1.0.1 ∙ d.1.1.1) (tagged (non_specific_tag d.1.0.0 (subst (λ z. Stuck (TagChar t z)) (sym d.1.0.1) d.1.1.0)))

-- [96]: comments do not hide names
notes_comments : (x : List CommentValue) (y : List Token) → comments_among (notes x ++ y) ≡ notes x ++ comments_among y
notes_comments [] y = refl
notes_comments (c ∷ x) y = ap (λ z. a_comment c.offset c.text ∷ z) (notes_comments x y)

notes_anchor : (x : List CommentValue) (y : List Token) → anchor_among (notes x ++ y) ≡ anchor_among y
notes_anchor [] y = refl
notes_anchor (c ∷ x) y = notes_anchor x y

notes_tag : (x : List CommentValue) (y : List Token) → tag_among (notes x ++ y) ≡ tag_among y
notes_tag [] y = refl
notes_tag (c ∷ x) y = notes_tag x y

notes_place : (x : List CommentValue) (y : List Token) → tag_place_among (notes x ++ y) ≡ tag_place_among y
notes_place [] y = refl
notes_place (c ∷ x) y = notes_place x y

pub properties_mean : {t : List ℕ} {n : ℤ} {c : Ctx} {i j : ℕ} {y : List Token}
    → Either (Then (Tagged t) (Perhaps (Then (Noted (Separate t n c)) (Anchored t)))) (Then (Anchored t) (Perhaps (Then (Noted (Separate t n c)) (Tagged t)))) i j y → PropertiesMean t n c i j y
properties_mean {i = i} (left (both (tagged {tag = tag} d) missing)) =
    record { value = tag_only i tag; derived = by_tag d; anchor = refl; tag = refl; place = refl; comments = refl }
properties_mean {i = i} (left (both (tagged {tag = tag} d) (given (both (noted {x = x} s) (anchored {name = name} a))))) = record {
  value = tag_with_anchor i tag name x;
  derived = tag_first d s a;
  anchor = notes_anchor x (an_anchor name ∷ []);
  tag = refl;
  place = refl;
  comments = notes_comments x (an_anchor name ∷ []) ∙ append-nil (notes x);
}
properties_mean (right (both (anchored {name = name} a) missing)) =
    record { value = anchor_only name; derived = by_anchor a; anchor = refl; tag = refl; place = refl; comments = refl }
properties_mean {t} {n} {c} {i} {j} (right (both {k = h} (anchored {name = name} a) (given (both {k = k} (noted {x = x} s) d)))) = go a s d where
  go : {k : ℕ} {y : List Token} → Anchor t i h name → Separate t n c h k x → Tagged t k j y → PropertiesMean t n c i j (an_anchor name ∷ (notes x ++ y))
  go {k} a s (tagged {tag = tag} d) = record {
    value = tag_with_anchor k tag name x;
    derived = anchor_first a s d;
    anchor = refl;
    tag = notes_tag x (a_tag k tag ∷ []);
    place = notes_place x (a_tag k tag ∷ []);
    comments = notes_comments x (a_tag k tag ∷ []) ∙ append-nil (notes x);
  }
