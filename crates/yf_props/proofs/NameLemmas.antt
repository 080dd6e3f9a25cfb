-- Names include all characters that may be in them, so they have only one end.
use Rattle.std.proofs.Common.{◌≡◌, ◌≢◌, ℕ, ◌+◌, ◌<◌, ◌≤◌, Bool, false, ◌⊎◌, inl, inr, ⊎_elim, List, slice_range, sym, ap, subst, arith}
use Rattle.std.proofs.lemmas.Bool.{cases_lt}
use Rattle.yf_chars.specs.Text.{code, no_char}
use Rattle.yf_chars.specs.Class.{is_anchor_char, is_ns_char, is_nb_char, is_printable, is_between, is_break_char, is_white, is_flow_indicator}
use Rattle.yf_chars.specs.Chain.{Chain, Functional, Stuck, Chosen, One, Many}
use Rattle.yf_chars.specs.Chain.Chain.{done, step}
use Rattle.yf_chars.proofs.ChainLemmas.{one_functional, one_stuck, stuck_unique}
use Rattle.yf_props.specs.Names.{AnchorChar, Run, Anchor, Alias}
use Rattle.yf_props.specs.Names.Anchor.{ampersand_name}
use Rattle.yf_props.specs.Names.Alias.{asterisk_name}
use Rattle.yf_chars.proofs.EscapeLemmas.{chosen_only}

-- a result is chosen if every other one ends earlier or is equal
pub chosen_over : {X : Type 0} {P : ℕ → X → Type 0} {j : ℕ} {x : X} → P j x
    → ((k : ℕ) (y : X) → P k y → (k < j) ⊎ ((k ≡ j) × (y ≡ x))) → Chosen P j x
chosen_over {X} {P} {j} {x} d other = record {
  derived = d;
  longest = λ k y e. ⊎_elim (λ (l : k < j). omega arith) (λ (s : (k ≡ j) × (y ≡ x)). omega (arith, s.0)) (other k y e);
  only = λ y e. ⊎_elim (λ (l : j < j). absurd (omega arith)) (λ (s : (j ≡ j) × (y ≡ x)). s.1) (other j y e);
}

-- a result ends before the chosen one or is equal to it
pub chosen_cases : {X : Type 0} {P : ℕ → X → Type 0} {j k : ℕ} {x y : X} → Chosen P j x → P k y → (k < j) ⊎ ((k ≡ j) × (y ≡ x))
chosen_cases {P = P} {j = j} {k = k} {y = y} c d = ⊎_elim
    (λ (l : k < j). inl l)
    (λ (l : j ≤ k).
    let m = c.longest k y d in
    let e : k ≡ j = omega arith in
    inr (e, c.only y (subst (λ v. P v y) e d)))
    (cases_lt k j)

pub chosen_same : {X : Type 0} (P : ℕ → X → Type 0) {j k : ℕ} {x y : X} → k ≡ j → y ≡ x → Chosen P j x → Chosen P k y
chosen_same P {k = k} {x = x} e f c = subst (λ v. Chosen P k v) (sym f) (subst (λ w. Chosen P w x) (sym e) c)

-- runs
module _ {S : ℕ → ℕ → List ℕ → Type 0} where
  pub run_unique : {i j k : ℕ} → Functional S → Run S i j → Run S i k → j ≡ k
  run_unique f r s = (stuck_unique f r.chain r.all s.chain s.all).0

  no_way : {i j : ℕ} {x : List ℕ} → Stuck (S i) → Chain S i j x → i < j → ⊥
  no_way stuck done l = absurd (omega arith)
  no_way stuck (step {h = h} {x = x} s c) l = stuck.none h x s

  -- without a character there is no run
  pub run_stuck : {i j : ℕ} → Stuck (S i) → Run S i j → ⊥
  run_stuck stuck r = no_way stuck r.chain r.some

pub run_from : {S : ℕ → ℕ → List ℕ → Type 0} {i j : ℕ} {x : List ℕ} → Chain S i j x → i < j → Stuck (S j) → Run S i j
run_from {x = x} c l s = record { characters = x; chain = c; some = l; all = s }

pub run_of : (t : List ℕ) (p : ℕ → Bool) {i j : ℕ} {x : List ℕ} → Many t p i j x → i < j → p (code t j) ≡ false → Run (One t p) i j
run_of t p {j = j} {x = x} m l e = record { characters = x; chain = m; some = l; all = one_stuck t p j e }

-- aliases and anchors
module _ {t : List ℕ} where
  name_unique : {i j k : ℕ} → Run (AnchorChar t) i j → Run (AnchorChar t) i k → j ≡ k
  name_unique r s = run_unique (one_functional t is_anchor_char) r s

  pub alias_unique : {i j k : ℕ} {x y : List ℕ} → Alias t i j x → Alias t i k y → (k ≡ j) × (y ≡ x)
  alias_unique {i} (asterisk_name e r) (asterisk_name f s) =
      let same = name_unique s r in (same, ap (slice_range t (i + 1)) same)

  pub anchor_unique : {i j k : ℕ} {x y : List ℕ} → Anchor t i j x → Anchor t i k y → (k ≡ j) × (y ≡ x)
  anchor_unique {i} (ampersand_name e r) (ampersand_name f s) =
      let same = name_unique s r in (same, ap (slice_range t (i + 1)) same)

  pub alias_chosen : {i j : ℕ} → code t i ≡ 42 → Run (AnchorChar t) (i + 1) j → Chosen (Alias t i) j (slice_range t (i + 1) j)
  alias_chosen {i} {j} e r = let d = asterisk_name e r in chosen_only d (λ k y f. alias_unique d f)

  pub anchor_chosen : {i j : ℕ} → code t i ≡ 38 → Run (AnchorChar t) (i + 1) j → Chosen (Anchor t i) j (slice_range t (i + 1) j)
  anchor_chosen {i} {j} e r = let d = ampersand_name e r in chosen_only d (λ k y f. anchor_unique d f)

  pub alias_parts : {i j : ℕ} {x : List ℕ} → Alias t i j x → (code t i ≡ 42) × Run (AnchorChar t) (i + 1) j
  alias_parts (asterisk_name e r) = (e, r)

  pub anchor_parts : {i j : ℕ} {x : List ℕ} → Anchor t i j x → (code t i ≡ 38) × Run (AnchorChar t) (i + 1) j
  anchor_parts (ampersand_name e r) = (e, r)

  pub no_anchor_here : {i : ℕ} → code t i ≢ 38 → Stuck (Anchor t i)
  no_anchor_here n = record { none = λ j x a. n (anchor_parts a).0 }

  pub no_alias : {i : ℕ} → (code t i ≡ 42 → is_anchor_char (code t (i + 1)) ≡ false) → Stuck (Alias t i)
  no_alias {i} n = record { none = λ j x a. let p = alias_parts a in run_stuck (one_stuck t is_anchor_char (i + 1) (n p.0)) p.1 }

  pub no_anchor : {i : ℕ} → (code t i ≡ 38 → is_anchor_char (code t (i + 1)) ≡ false) → Stuck (Anchor t i)
  no_anchor {i} n = record { none = λ j x a. let p = anchor_parts a in run_stuck (one_stuck t is_anchor_char (i + 1) (n p.0)) p.1 }

-- `no_char` is no character of a name
pub no_anchor_char : (c : ℕ) → c ≡ no_char → is_anchor_char c ≡ false
unfolding is_anchor_char is_ns_char is_nb_char is_printable is_between is_break_char is_white is_flow_indicator
no_anchor_char c e = ap is_anchor_char e
