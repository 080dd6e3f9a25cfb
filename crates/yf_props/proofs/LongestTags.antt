-- The handle and the prefix of a TAG directive include all characters that may be in them.
use Rattle.std.proofs.Common.{◌≡◌, ◌≢◌, ℕ, ◌+◌, ◌≤◌, false, List, ◌∷◌, ◌++◌, refl, sym, ap, ◌∙◌, subst, arith}
use Rattle.yf_chars.specs.Chain.{Chain, Chosen, Many, Stuck}
use Rattle.yf_chars.specs.Chain.Chain.{done}
use Rattle.yf_chars.specs.Class.{is_between, is_digit, is_tag_char, is_uri_char, is_word_char}
use Rattle.yf_chars.specs.Text.{code}
use Rattle.yf_chars.proofs.ChainLemmas.{chain_chosen, chain_forward, many_unique, one_functional, one_stuck, stuck_unique}
use Rattle.yf_props.specs.Names.{Handle, Run, TagChar, TagPrefix, UriChar, WordChar}
use Rattle.yf_props.specs.Names.Handle.{primary_handle, secondary_handle, named_handle}
use Rattle.yf_props.specs.Names.TagPrefix.{local_prefix, global_prefix}
use Rattle.yf_props.proofs.TagLemmas.{percent_tag, percent_uri, spelled_functional, spelled_stuck, tag_functional}
use Rattle.yf_chars.proofs.CharFacts.{exclamation_no_tag, exclamation_no_word}

handle_mark : {t : List ℕ} {i j : ℕ} → Handle t i j → code t i ≡ 33
handle_mark (primary_handle a) = a
handle_mark (secondary_handle a b) = a
handle_mark (named_handle a r b) = a

pub no_handle : {t : List ℕ} {i : ℕ} → code t i ≢ 33 → (j : ℕ) → Handle t i j → ⊥
no_handle n j h = n (handle_mark h)

-- the name after the ! ends at w
module _ (t : List ℕ) (i w : ℕ) (x : List ℕ) (m : Many t is_word_char (i + 1) w x) (e : is_word_char (code t w) ≡ false) where
  named_end : {j : ℕ} → Run (WordChar t) (i + 1) j → j ≡ w
  named_end r = (stuck_unique (one_functional t is_word_char) r.chain r.all m (one_stuck t is_word_char w e)).0

  no_name : code t (i + 1) ≡ 33 → i + 1 ≡ w
  no_name b = (many_unique t is_word_char done (ap is_word_char b ∙ exclamation_no_word) m e).0

  pub handle_within : (k : ℕ) → Handle t i k → k ≤ w + 1
  handle_within k (primary_handle a) = let f = chain_forward (one_functional t is_word_char) m in omega arith
  handle_within k (secondary_handle a b) = let s = no_name b in omega arith
  handle_within k (named_handle a r b) = let s = named_end r in omega arith

  pub handle_alone : code t w ≢ 33 → (k : ℕ) → Handle t i k → k ≤ i + 1
  handle_alone n k (primary_handle a) = omega arith
  handle_alone n k (secondary_handle a b) = absurd (n (ap (code t) (sym (no_name b)) ∙ b))
  handle_alone n k (named_handle a r b) = absurd (n (ap (code t) (sym (named_end r)) ∙ b))

module _ {t : List ℕ} where
  no_tag_at_mark : {i j : ℕ} {x : List ℕ} {A : Type 0} → code t i ≡ 33 → TagChar t i j x → A
  no_tag_at_mark {i} {j} {x} e s = absurd ((spelled_stuck t is_tag_char percent_tag i (ap is_tag_char e ∙ exclamation_no_tag) (λ q. absurd (omega arith))).none j x s)

  uris : {i j : ℕ} {x : List ℕ} → Chain (UriChar t) i j x → Stuck (UriChar t j) → Chosen (Chain (UriChar t) i) j x
  uris c s = chain_chosen (spelled_functional t is_uri_char percent_uri) c s

  pub local_chosen : {i j : ℕ} {x : List ℕ} → code t i ≡ 33 → Chain (UriChar t) (i + 1) j x → Stuck (UriChar t j) → Chosen (TagPrefix t i) j (33 ∷ x)
  local_chosen {i} {j} {x} e c s = record { derived = local_prefix e c; longest = λ k y p. ends p; only = λ y p. same p } where
    ends : {k : ℕ} {y : List ℕ} → TagPrefix t i k y → k ≤ j
    ends {k} (local_prefix {x = z} f d) = (uris c s).longest k z d
    ends (global_prefix g d) = no_tag_at_mark e g

    same : {y : List ℕ} → TagPrefix t i j y → y ≡ 33 ∷ x
    same (local_prefix {x = z} f d) = ap (λ w. 33 ∷ w) ((uris c s).only z d)
    same (global_prefix g d) = no_tag_at_mark e g

  pub global_chosen : {i k j : ℕ} {c x : List ℕ} → code t i ≢ 33 → TagChar t i k c → Chain (UriChar t) k j x → Stuck (UriChar t j) → Chosen (TagPrefix t i) j (c ++ x)
  global_chosen {i} {k} {j} {c} {x} n h d s = record { derived = global_prefix h d; longest = λ l y p. ends p; only = λ y p. same p } where
    ends : {l : ℕ} {y : List ℕ} → TagPrefix t i l y → l ≤ j
    ends (local_prefix f e) = absurd (n f)
    ends {l} (global_prefix {k = o} {x = z} g e) = (uris d s).longest l z (subst (λ w. Chain (UriChar t) w l z) (tag_functional.one_end g h) e)

    same : {y : List ℕ} → TagPrefix t i j y → y ≡ c ++ x
    same (local_prefix f e) = absurd (n f)
    same (global_prefix {k = o} {c = b} {x = z} g e) =
        let e' : Chain (UriChar t) k j z = subst (λ w. Chain (UriChar t) w j z) (tag_functional.one_end g h) e in
        let h' : TagChar t i o c = subst (λ w. TagChar t i w c) (sym (tag_functional.one_end g h)) h in
        ap (λ w. w ++ z) (tag_functional.one_meaning g h') ∙ ap (λ w. c ++ w) ((uris d s).only z e')
