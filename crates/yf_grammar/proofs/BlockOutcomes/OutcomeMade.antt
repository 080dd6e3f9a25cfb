-- Outcomes made of an exact outcome, and of one that ends at an offset or later.
use Rattle.std.proofs.Common.{◌≡◌, ℕ, suc, max, ◌<◌, Bool, false, inl, inr, ⊎_elim, List, Option, Some, None, refl, ap, ◌∙◌, subst}
use Rattle.yf_comments.specs.Comment.{CommentValue}
use Rattle.yf_grammar.specs.Productions.Meaning.{Meaning, ◌⊕◌, meaning_after, empty_node, collection, entering}
use Rattle.yf_grammar.specs.FlowReader.Parser.{ParsedNode, found}
use Rattle.yf_grammar.specs.BlockReader.BlockParser.{Ahead, headed, outcome_after, collected, item_found, lone_key, lone_value, pair_found}
use Rattle.yf_grammar.specs.BlockReader.Halts.{then_found}
use Rattle.yf_grammar.proofs.FlowReader.Longest.{Longest}
use Rattle.yf_grammar.proofs.BlockOutcomes.BlockClaims.{IsFound, Unheld, nothing_ahead, indicator_ahead}
use Rattle.yf_grammar.proofs.BlockOutcomes.OutcomeEnds.{collected_is, item_is, lone_key_is, lone_value_is, pair_is}
use Rattle.yf_grammar.proofs.BlockOutcomes.BlockHalts.{then_is}
use Rattle.yf_grammar.proofs.BlockOutcomes.BlockItems.{exact_end, exact_height, exact_meaning, longest_of}
use Rattle.yf_grammar.proofs.FlowStack.AwaitEntries.{found_is}

-- an outcome made of another one, with its end
pub record Makes (made : ParsedNode → Option ParsedNode) (put : Meaning → Meaning) (deep : ℕ → ℕ) : Type 0 where
  pub is : (f : ParsedNode) → made f ≡ found f.end (deep f.height) false (put f.meaning)

module _ {made : ParsedNode → Option ParsedNode} {put : Meaning → Meaning} {deep : ℕ → ℕ} where
  pub makes_exact : {f : ParsedNode} {j h : ℕ} {x : Meaning} → Makes made put deep → IsFound (Some f) j h x → IsFound (made f) j (deep h) (put x)
  makes_exact {f} {j} {h} {x} m e = record {
    is = m.is f ∙ ap (λ w. found w (deep f.height) false (put f.meaning)) (exact_end e) ∙ ap (λ w. found j (deep w) false (put f.meaning)) (exact_height e)
        ∙ ap (λ w. found j (deep h) false (put w)) (exact_meaning e);
  }

  pub makes_longest : {o : Option ParsedNode} {j : ℕ} {x : Meaning} → Makes made put deep → Longest o j x → Longest (then_found made o) j (put x)
  makes_longest {o} {j} {x} m l =
      let f = l.answer in
      longest_of (record { end = f.end; height = deep f.height; json = false; meaning = put f.meaning })
      (ap (then_found made) l.is ∙ then_is made f ∙ m.is f ∙ found_is f.end (deep f.height) false (put f.meaning))
      (⊎_elim (λ (q : j < f.end). inl q) (λ (q : (j ≡ f.end) × (x ≡ f.meaning)). inr (q.0, ap put q.1)) l.far)

  -- it ends after j, so it is longer than each part up to j
  pub makes_further : (g : ParsedNode) (j : ℕ) (x : Meaning) → Makes made put deep → j < g.end → Longest (made g) j x
  makes_further g j x m l =
      longest_of (record { end = g.end; height = deep g.height; json = false; meaning = put g.meaning }) (m.is g ∙ found_is g.end (deep g.height) false (put g.meaning)) (inl l)

pub makes_item : (i : ℕ) → Makes (item_found i) (λ x. entering i None x) (λ h. h)
makes_item i = record { is = λ f. item_is i f }

pub makes_lone_key : (i : ℕ) → Makes (lone_key i) (λ x. entering i None x ⊕ empty_node x.finish) (λ h. h)
makes_lone_key i = record { is = λ f. lone_key_is i f }

pub makes_lone_value : (i : ℕ) → Makes (lone_value i) (λ x. entering i (Some i) (empty_node i) ⊕ x) (λ h. h)
makes_lone_value i = record { is = λ f. lone_value_is i f }

pub makes_pair : (i k : ℕ) (f : ParsedNode) → Makes (pair_found i k f) (λ y. entering i (Some k) f.meaning ⊕ y) (λ h. max f.height h)
makes_pair i k f = record { is = λ g. pair_is i k f g }

pub makes_collected : (a : Ahead) (s : Bool) (i : ℕ) → Makes (collected a s i) (λ x. headed a (collection s false i x.finish x)) suc
makes_collected a s i = record { is = λ f. collected_is a s i f }

-- comments before a node
told_found : {a : Ahead} (ds : List CommentValue) (f : ParsedNode) → Unheld a → outcome_after a ds (Some f) ≡ Some (record f { meaning = meaning_after ds f.meaning })
unfolding outcome_after
told_found ds f nothing_ahead = refl
told_found ds f indicator_ahead = refl

told_one : {a : Ahead} (ds : List CommentValue) (j h : ℕ) (x : Meaning) → Unheld a → outcome_after a ds (found j h false x) ≡ found j h false (meaning_after ds x)
unfolding outcome_after found
told_one ds j h x nothing_ahead = refl
told_one ds j h x indicator_ahead = refl

pub told_exact : {a : Ahead} (ds : List CommentValue) {o : Option ParsedNode} {j h : ℕ} {x : Meaning} → Unheld a → IsFound o j h x → IsFound (outcome_after a ds o) j h (meaning_after ds x)
told_exact {a} ds {o} {j} {h} {x} u e = record { is = ap (outcome_after a ds) e.is ∙ told_one ds j h x u }

pub told_longest : {a : Ahead} (ds : List CommentValue) {o : Option ParsedNode} {j : ℕ} {x : Meaning} → Unheld a → Longest o j x → Longest (outcome_after a ds o) j (meaning_after ds x)
told_longest {a} ds {o} {j} {x} u l =
    let f = l.answer in
    longest_of (record f { meaning = meaning_after ds f.meaning }) (ap (outcome_after a ds) l.is ∙ told_found ds f u)
    (⊎_elim (λ (q : j < f.end). inl q) (λ (q : (j ≡ f.end) × (x ≡ f.meaning)). inr (q.0, ap (meaning_after ds) q.1)) l.far)

pub headed_unheld : {a : Ahead} (x : Meaning) → Unheld a → headed a x ≡ x
unfolding headed
headed_unheld x nothing_ahead = refl
headed_unheld x indicator_ahead = refl

pub found_moved : {o : Option ParsedNode} {j h g : ℕ} {x y : Meaning} → h ≡ g → x ≡ y → IsFound o j h x → IsFound o j g y
found_moved {o} {j} {h} {g} {x} {y} p q e = record { is = e.is ∙ ap (λ w. found j w false x) p ∙ ap (λ w. found j g false w) q }

pub longest_moved : {o : Option ParsedNode} {j : ℕ} {x y : Meaning} → x ≡ y → Longest o j x → Longest o j y
longest_moved {o} {j} {x} {y} e l = subst (λ w. Longest o j w) e l

-- a key with its value
pub pair_exact : (i k : ℕ) (f : ParsedNode) {g : ParsedNode} {j h d : ℕ} {x y : Meaning} → f.height ≡ h → f.meaning ≡ x → IsFound (Some g) j d y
    → IsFound (pair_found i k f g) j (max h d) (entering i (Some k) x ⊕ y)
pair_exact i k f {g} {j} {h} {d} {x} {y} p q e =
    found_moved (ap (λ w. max w d) p) (ap (λ w. entering i (Some k) w ⊕ y) q) (makes_exact (makes_pair i k f) e)

pub pair_longest : (i k : ℕ) (f : ParsedNode) {o : Option ParsedNode} {j : ℕ} {x y : Meaning} → f.meaning ≡ x → Longest o j y
    → Longest (then_found (pair_found i k f) o) j (entering i (Some k) x ⊕ y)
pair_longest i k f {o} {j} {x} {y} q l = longest_moved (ap (λ w. entering i (Some k) w ⊕ y) q) (makes_longest (makes_pair i k f) l)
