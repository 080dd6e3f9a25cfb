-- Laws of the findings of several rules, one rule after the other, if some are left out.
use Rattle.std.proofs.Common.{◌≡◌, ℕ, ◌+◌, ◌<◌, ◌≤◌, Bool, true, false, List, [], ◌∷◌, ◌++◌, length, take, get_or, sym, subst, ap, ◌∙◌}
use Rattle.std.proofs.lemmas.List.{append-nil, take_all}
use Rattle.std.proofs.lemmas.List.Elements.{filter_more}
use Rattle.std.specs.Prelude.{cond, filter, not}
use Rattle.yf_rules.specs.declared.finding.Finding.{Finding}
use Rattle.yf_rules.specs.Asked.{asked, is_among}
use Rattle.yf_rules.specs.Check.{InOrder, SortedFrom, CheckAnswer}
use Rattle.yf_rules.specs.Check.InOrder.{no_rules, one_more}
use Rattle.yf_rules.specs.Check.CheckAnswer.{checked}
use Rattle.yf_rule_sets.specs.Definition.{RuleDefinition}

pub none_checked : {B : Type 0} (R : B → List Finding → Type 0) (xs : List Finding) → xs ≡ [] → InOrder R [] xs
none_checked R xs e = subst (λ ys. InOrder R [] ys) (sym e) no_rules

module _ {B : Type 0} (bs : List B) (i : ℕ) (b : B) (definition : B → RuleDefinition) (without : List (List ℕ)) (id : List ℕ) (left_out : Bool)
    (within : i < length bs) (same : b ≡ get_or bs i b) (test : left_out ≡ is_among without id) (named : id ≡ (definition b).id) where
  -- the rules that are asked, with one more rule
  one_asked : asked definition without (take (i + 1) bs) ≡ asked definition without (take i bs) ++ cond (not left_out) (b ∷ []) []
  one_asked =
      let passes : B → Bool = λ c. not (is_among without (definition c).id) in
      let decided : passes b ≡ not left_out = ap not (ap (is_among without) (sym named) ∙ sym test) in
      filter_more passes bs i b within ∙ ap (λ c. filter passes (take i bs) ++ cond (passes c) (c ∷ []) []) (sym same)
      ∙ ap (λ t. filter passes (take i bs) ++ cond t (b ∷ []) []) decided

  -- one more rule, which is asked
  pub more_checked : (R : B → List Finding → Type 0) (x y z : List Finding) → left_out ≡ false
      → InOrder R (asked definition without (take i bs)) x → R b y → z ≡ x ++ y → InOrder R (asked definition without (take (i + 1) bs)) z
  more_checked R x y z is o r q =
      let grown : asked definition without (take (i + 1) bs) ≡ asked definition without (take i bs) ++ b ∷ [] =
      one_asked ∙ ap (λ t. asked definition without (take i bs) ++ cond (not t) (b ∷ []) []) is in
      subst (λ w. InOrder R w z) (sym grown) (subst (λ w. InOrder R (asked definition without (take i bs) ++ b ∷ []) w) (sym q) (one_more o r))

  -- one more rule, which is left out
  pub more_left_out : (R : B → List Finding → Type 0) (x : List Finding) → left_out ≡ true
      → InOrder R (asked definition without (take i bs)) x → InOrder R (asked definition without (take (i + 1) bs)) x
  more_left_out R x is o =
      let grown : asked definition without (take (i + 1) bs) ≡ asked definition without (take i bs) =
      one_asked ∙ (ap (λ t. asked definition without (take i bs) ++ cond (not t) (b ∷ []) []) is ∙ append-nil (asked definition without (take i bs))) in
      subst (λ w. InOrder R w x) (sym grown) o

-- all rules
pub all_checked : {B : Type 0} (bs : List B) (i : ℕ) (definition : B → RuleDefinition) (without : List (List ℕ)) (R : B → List Finding → Type 0)
    (x fs : List Finding) → length bs ≤ i → InOrder R (asked definition without (take i bs)) x → SortedFrom x fs → CheckAnswer R (asked definition without bs) fs
all_checked bs i definition without R x fs h o s = checked (subst (λ w. InOrder R (asked definition without w) x) (take_all i bs h) o) s
