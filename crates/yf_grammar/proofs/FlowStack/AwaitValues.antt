-- An entry of a flow collection that is read: from its `?` or key to its value, and to its end.
use Rattle.std.proofs.Common.{◌≡◌, ◌≢◌, ℕ, suc, max, ◌+◌, ◌≤◌, ℤ, Bool, true, false, List, [], Some, None, refl, sym, ap, ◌∙◌, subst, arith, append_assoc, ◌==◌, ◌||◌}
use Rattle.yf_chars.specs.declared.context.Ctx.{Ctx}
use Rattle.yf_chars.specs.Text.{code}
use Rattle.yf_chars.specs.Chain.{Stuck, Chosen}
use Rattle.yf_comments.specs.Comment.{CommentValue}
use Rattle.yf_comments.specs.Comments.{Separate}
use Rattle.yf_grammar.specs.Productions.Meaning.{Meaning, ◌⊕◌, meaning_after, noting, entering, empty_node}
use Rattle.yf_grammar.specs.FlowReader.Parser.{ParsedNode, found, Gap, ColonAt, PairKey, ANode, AnEntry, AValue, Parses, paired, pair_entry, only}
use Rattle.yf_grammar.specs.FlowReader.Parser.Gap.{longest_gap, no_gap}
use Rattle.yf_grammar.specs.FlowReader.Parser.Parses.{mapping_explicit, mapping_explicit_missed, mapping_sign_alone, mapping_implicit, explicit_nothing, explicit_something, lone_value, key_missed, key_with_value, key_without_value, pair_explicit, pair_explicit_missed, pair_of_value, item_missed, pair_of_key, item_read, value_read, value_empty, value_adjacent, value_adjacent_empty, value_missing}
use Rattle.yf_grammar.specs.FlowReader.FlowContinuations.{IsEntry, with_pair, wrapped, RestAwaited, KeyAwaited, ValueAwaited, ValueNodeAwaited, ItemAwaited}
use Rattle.yf_grammar.proofs.FlowStack.AwaitEntries.{read_as, plus_assoc, found_is, max-zero-left}

as_entry : {t : List ℕ} {e : ℕ} {sequence : Bool} {n : ℤ} {d : Ctx} {s j h g : ℕ} {x y : Meaning} → h ≡ g → x ≡ y → IsEntry t e sequence n d s j h x → IsEntry t e sequence n d s j g y
as_entry {t} {e} {sequence} {n} {d} {s} {j} {h} {g} {x} {y} a b r =
    let l : IsEntry t e sequence n d s j g x = subst (λ w. IsEntry t e sequence n d s j w x) a r in
    subst (λ w. IsEntry t e sequence n d s j g w) b l

after_is : (cs : List CommentValue) (x : Meaning) → meaning_after cs x ≡ noting (only [] 0) cs ⊕ x
unfolding meaning_after noting only ◌⊕◌
after_is cs x = refl

pub nothing_before : (x : Meaning) → x ≡ only [] 0 ⊕ x
unfolding only ◌⊕◌
nothing_before x = refl

noted_after : (x : Meaning) (cs : List CommentValue) (y : Meaning) → x ⊕ meaning_after cs y ≡ noting x cs ⊕ y
unfolding meaning_after noting ◌⊕◌
noted_after x cs y = rw (append_assoc x.comments cs y.comments) refl

pair_is : (s : ℕ) (f : ParsedNode) → pair_entry s f ≡ Some (record { end = f.end; height = suc f.height; json = false; meaning = wrapped true s f.meaning })
unfolding pair_entry found
pair_is s f = refl

paired_is : (s k : ℕ) (f : ParsedNode) (cs : List CommentValue) (g : ParsedNode)
    → paired s k f cs g ≡ Some (record { end = g.end; height = max f.height g.height; json = false; meaning = noting (entering s (Some k) f.meaning) cs ⊕ g.meaning })
unfolding paired found
paired_is s k f cs g = refl

wrapped_same : (pair : Bool) (s : ℕ) {x y : Meaning} → x ≡ y → wrapped pair s x ≡ wrapped pair s y
wrapped_same pair s e = ap (λ w. wrapped pair s w) e

module _ {t : List ℕ} {e s k : ℕ} {n : ℤ} {d : Ctx} {cs : List CommentValue} where
  -- `?` and a separation, in a mapping and in a sequence
  pub mapping_signed : code t s ≡ 63 → Chosen (Separate t n d (s + 1)) k cs → RestAwaited t e false n d false s (noting (only [] 0) cs) k
  mapping_signed b p = record {
    some = λ f r. record { json = f.json; read = read_as (ap (λ w. Some (record f { meaning = w })) (after_is cs f.meaning)) (mapping_explicit b p r) };
    none = λ r. mapping_explicit_missed cs b p r;
  }

  pub pair_signed : code t s ≡ 63 → Chosen (Separate t n d (s + 1)) k cs → RestAwaited t e true n d true s (noting (only [] 0) cs) k
  pair_signed b p = record {
    some = λ f r. record {
      json = false;
      read = read_as (pair_is s (record f { meaning = meaning_after cs f.meaning }) ∙ ap (λ w. Some (record { end = f.end; height = suc f.height; json = false; meaning = wrapped true s w })) (after_is cs f.meaning)) (pair_explicit b p r);
    };
    none = λ r. pair_explicit_missed cs b p r;
  }

module _ {t : List ℕ} {e s : ℕ} {n : ℤ} {d : Ctx} where
  -- no `?` with a separation
  pub key_unsigned : code t s ≢ 63 → KeyAwaited t e false n d false s (only [] 0) s
  key_unsigned b = record {
    some = λ f r. record { json = f.json; read = read_as (ap (λ w. Some (record f { meaning = w })) (nothing_before f.meaning)) (mapping_implicit b r) };
    none = λ r. mapping_implicit b r;
  }

  pub key_sign_alone : code t s ≡ 63 → Stuck (Separate t n d (s + 1)) → KeyAwaited t e false n d false s (only [] 0) s
  key_sign_alone b q = record {
    some = λ f r. record { json = f.json; read = read_as (ap (λ w. Some (record f { meaning = w })) (nothing_before f.meaning)) (mapping_sign_alone b q r) };
    none = λ r. mapping_sign_alone b q r;
  }

  -- a value without a key in a sequence
  pub pair_value_alone : ColonAt t false d s → ValueAwaited t e true n d true s false 0 (only [] 0 ⊕ entering s (Some s) (empty_node s)) s
  pair_value_alone b = record {
    some = λ g r. record {
      json = false;
      read = read_as (pair_is s (record g { meaning = entering s (Some s) (empty_node s) ⊕ g.meaning })
          ∙ ap (λ (z : ℕ). Some (record { end = g.end; height = suc z; json = false; meaning = wrapped true s (entering s (Some s) (empty_node s) ⊕ g.meaning) })) (sym (max-zero-left g.height))
          ∙ ap (λ w. Some (record { end = g.end; height = suc (max 0 g.height); json = false; meaning = wrapped true s (w ⊕ g.meaning) })) (nothing_before (entering s (Some s) (empty_node s)))) (pair_of_value b r);
    };
  }

module _ {t : List ℕ} {e : ℕ} {sequence : Bool} {n : ℤ} {d : Ctx} {pair : Bool} {s : ℕ} {x : Meaning} {p : ℕ} where
  -- the end of the entry after `?`, or something else
  pub rest_ends : RestAwaited t e sequence n d pair s x p → (code t p == 44) || (code t p == 93) || (code t p == 125) ≡ true
      → IsEntry t (with_pair pair e) sequence n d s p (with_pair pair 0) (wrapped pair s (x ⊕ (entering s None (empty_node (s + 1)) ⊕ empty_node (s + 1))))
  rest_ends a b = a.some _ (read_as (found_is p 0 false (entering s None (empty_node (s + 1)) ⊕ empty_node (s + 1))) (explicit_nothing b))

  pub rest_goes_on : RestAwaited t e sequence n d pair s x p → (code t p == 44) || (code t p == 93) || (code t p == 125) ≡ false → KeyAwaited t e sequence n d pair s x p
  rest_goes_on a b = record { some = λ f r. a.some f (explicit_something b r); none = λ r. a.none (explicit_something b r) }

module _ {t : List ℕ} {e : ℕ} {sequence : Bool} {n : ℤ} {d : Ctx} {pair : Bool} {s : ℕ} {x : Meaning} {p : ℕ} (a : KeyAwaited t e sequence n d pair s x p) where
  -- a value without a key
  pub value_alone : ColonAt t false d p → ValueAwaited t e sequence n d pair s false 0 (x ⊕ entering s (Some p) (empty_node p)) p
  value_alone b = record {
    some = λ g r.
        as_entry (ap (λ z. with_pair pair z) (sym (max-zero-left g.height))) (wrapped_same pair s (plus_assoc x (entering s (Some p) (empty_node p)) g.meaning))
        (a.some (record g { meaning = entering s (Some p) (empty_node p) ⊕ g.meaning }) (lone_value b r));
  }

  module _ (no : ColonAt t false d p → ⊥) where
    pub key_fails : Parses t e (ANode n d p) None → Parses t (with_pair pair e) (AnEntry sequence n d s) None
    key_fails r = a.none (key_missed no r)

    module _ {k : ℕ} {cs : List CommentValue} (f : ParsedNode) (r : Parses t e (ANode n d p) (Some f)) (q : Gap t n d f.end k cs) where
      pub value_after_key : ColonAt t f.json d k → ValueAwaited t e sequence n d pair s f.json f.height (x ⊕ noting (entering s (Some k) f.meaning) cs) k
      value_after_key b = record {
        some = λ g l.
            as_entry refl (wrapped_same pair s (plus_assoc x (noting (entering s (Some k) f.meaning) cs) g.meaning))
            (a.some _ (read_as (paired_is s k f cs g) (key_with_value no r q b l)));
      }

      pub key_alone : (ColonAt t f.json d k → ⊥)
          → IsEntry t (with_pair pair e) sequence n d s f.end (with_pair pair f.height) (wrapped pair s (x ⊕ (entering s None f.meaning ⊕ empty_node f.meaning.finish)))
      key_alone b = a.some _ (key_without_value cs no r q b)

module _ {t : List ℕ} {n : ℤ} {d : Ctx} {s : ℕ} (a : ItemAwaited t n d s) where
  pub item_fails : {e : ℕ} → Parses t e (ANode n d s) None → Parses t e (AnEntry true n d s) None
  item_fails r = item_missed a.no_sign a.no_value r

  -- an item that is the key of a single pair, and one that is none
  pub value_after_item : {e k : ℕ} (f : ParsedNode) → Parses t (suc e) (ANode n d s) (Some f) → PairKey t d s f k → f.height ≤ e
      → ValueAwaited t e true n d true s f.json f.height (entering s (Some k) f.meaning) k
  value_after_item {e} {k} f r q l = record {
    some = λ g v. record {
      json = false;
      read = read_as (pair_is s (record { end = g.end; height = max f.height g.height; json = false; meaning = entering s (Some k) f.meaning ⊕ g.meaning })) (pair_of_key a.no_sign a.no_value r q l v);
    };
  }

  pub item_alone : {e : ℕ} (f : ParsedNode) → Parses t e (ANode n d s) (Some f) → ((k : ℕ) → PairKey t d s f k → ⊥)
      → IsEntry t e true n d s f.end f.height (entering s None f.meaning)
  item_alone f r q = record { json = f.json; read = item_read a.no_sign a.no_value r q }

module _ {t : List ℕ} {e : ℕ} {sequence : Bool} {n : ℤ} {d : Ctx} {pair : Bool} {s : ℕ} {json : Bool} {h : ℕ} {x : Meaning} {v : ℕ} (a : ValueAwaited t e sequence n d pair s json h x v) where
  empty_value : Parses t e (AValue json n d v) (found (v + 1) 0 false (empty_node (v + 1)))
      → IsEntry t (with_pair pair e) sequence n d s (v + 1) (with_pair pair h) (wrapped pair s (x ⊕ empty_node (v + 1)))
  empty_value r =
      let l = a.some _ (read_as (found_is (v + 1) 0 false (empty_node (v + 1))) r) in
      let q : max h 0 ≡ h = omega arith in
      as_entry (ap (λ z. with_pair pair z) q) refl l

  no_value_node : {p : ℕ} {cs : List CommentValue} → Gap t n d (v + 1) p cs → Parses t e (ANode n d p) None → (b : Bool) → b ≡ json
      → Parses t e (AValue json n d v) (found (v + 1) 0 false (empty_node (v + 1)))
  no_value_node (longest_gap {cs = cs} q) r b m = value_empty cs q r
  no_value_node (no_gap q) r true m = subst (λ w. Parses t e (AValue w n d v) (found (v + 1) 0 false (empty_node (v + 1)))) m (value_adjacent_empty q r)
  no_value_node (no_gap q) r false m = subst (λ w. Parses t e (AValue w n d v) (found (v + 1) 0 false (empty_node (v + 1)))) m (value_missing q)

  -- no node after the `:`
  pub value_ends : {p : ℕ} {cs : List CommentValue} → Gap t n d (v + 1) p cs → Parses t e (ANode n d p) None
      → IsEntry t (with_pair pair e) sequence n d s (v + 1) (with_pair pair h) (wrapped pair s (x ⊕ empty_node (v + 1)))
  value_ends q r = empty_value (no_value_node q r json refl)

  pub value_unseparated : json ≡ false → Stuck (Separate t n d (v + 1))
      → IsEntry t (with_pair pair e) sequence n d s (v + 1) (with_pair pair h) (wrapped pair s (x ⊕ empty_node (v + 1)))
  value_unseparated m q = empty_value (subst (λ w. Parses t e (AValue w n d v) (found (v + 1) 0 false (empty_node (v + 1)))) (sym m) (value_missing q))

  -- the node after a separation, or beside the `:`
  pub node_after : {p : ℕ} {cs : List CommentValue} → Chosen (Separate t n d (v + 1)) p cs → ValueNodeAwaited t e sequence n d pair s h (noting x cs) p
  node_after {p} {cs} q = record {
    some = λ g r. as_entry refl (wrapped_same pair s (noted_after x cs g.meaning)) (a.some _ (value_read q r));
    none = λ r. (v + 1, cs, wrapped pair s (x ⊕ empty_node (v + 1)), value_ends (longest_gap q) r, longest_gap q);
  }

  pub node_beside : json ≡ true → Stuck (Separate t n d (v + 1)) → ValueNodeAwaited t e sequence n d pair s h x (v + 1)
  node_beside m q = record {
    some = λ g r. a.some g (subst (λ w. Parses t e (AValue w n d v) (Some g)) (sym m) (value_adjacent q r));
    none = λ r. (v + 1, [], wrapped pair s (x ⊕ empty_node (v + 1)), value_ends (no_gap q) r, no_gap q);
  }
