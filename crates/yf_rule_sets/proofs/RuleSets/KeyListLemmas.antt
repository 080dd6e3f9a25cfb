-- Laws of the list of the first few keys of all open mappings.
use Rattle.std.proofs.Common.{◌≡◌, ℕ, ◌-◌, Bool, true, false, Bor, List, [], ◌∷◌, ◌++◌, Some, None, length, drop, refl, sym, subst, ap, ◌∙◌, arith, true≢false}
use Rattle.std.specs.Prelude.{slice_get, not, ◌&&◌, if◌then◌else◌, Option}
use Rattle.std.specs.BTreeSet.{contains}
use Rattle.std.specs.BTreeMap.{is_at}
use Rattle.std.specs.List.{list_any}
use Rattle.std.specs.Cmp.Lexicographic.{slice_cmp}
use Rattle.std.specs.Option.{option_cmp, option_eq}
use Rattle.std.specs.Ordering.{is_eq, nat_cmp, ordering_then}
use Rattle.std.specs.Str.{bytes_eq}
use Rattle.std.specs.declared.cmp.Ordering.{Ordering}
use Rattle.std.specs.declared.cmp.Ordering.TheVariants.{Less, Equal, Greater}
use Rattle.std.proofs.lemmas.List.{append_assoc}
use Rattle.std.proofs.lemmas.Map.Text.{is_eq-slice_cmp}
use Rattle.std.proofs.lemmas.Map.Views.{tells_apart}
use Rattle.std.proofs.Math.Seq.{drop-append_seam}
use Rattle.std.proofs.lemmas.Option.{same_Some}
use Rattle.yf_props.specs.Props.{name_value}
use Rattle.yf_rule_sets.proofs.RuleSets.KeySetLemmas.{exact_value}
use Rattle.yf_rule_sets.specs.Passes.KeyPass.{IsCollection, IsLast, KeyValue, OpenCollection, has_key, holds_key, key_cmp, key_value, past_key, same_value, takes_key, with_key}
use Rattle.yf_rule_sets.specs.declared.rules.repeated_keys.ScalarKey.{ScalarKey}
use Rattle.yf_rule_sets.specs.declared.rules.repeated_keys.KeyedCollection.{KeyedCollection}
use Rattle.yf_events.proofs.PackedRows.{got_last}

is_eq_then : (o p : Ordering) → is_eq (ordering_then o p) ≡ (is_eq o && is_eq p)
is_eq_then Less p = refl
is_eq_then Equal p = refl
is_eq_then Greater p = refl

same_tags : (s t : Option (Bor (List ℕ))) → option_eq (λ (x y : Bor (List ℕ)). bytes_eq x.now y.now) s t
    ≡ is_eq (option_cmp (option_cmp (slice_cmp nat_cmp)) (Some (name_value s)) (Some (name_value t)))
same_tags None None = refl
same_tags None (Some y) = refl
same_tags (Some x) None = refl
same_tags (Some x) (Some y) = sym (is_eq-slice_cmp x.now y.now)

pub same_pairs : (x y : List ℕ) (s t : Option (Bor (List ℕ))) → (bytes_eq x y && option_eq (λ (x y : Bor (List ℕ)). bytes_eq x.now y.now) s t)
    ≡ same_value (x, Some (name_value s)) (y, Some (name_value t))
same_pairs x y s t =
    let o = slice_cmp nat_cmp x y in
    let p = option_cmp (option_cmp (slice_cmp nat_cmp)) (Some (name_value s)) (Some (name_value t)) in
    ap (λ b. b && option_eq (λ (x y : Bor (List ℕ)). bytes_eq x.now y.now) s t) (sym (is_eq-slice_cmp x y)) ∙ ap (λ b. is_eq o && b) (same_tags s t) ∙ sym (is_eq_then o p)

if_known : (b c : Bool) → (b ≡ true → c ≡ true) → (if b then true else c) ≡ c
if_known true c f = sym (f refl)
if_known false c f = refl

known_same : (w v : KeyValue) (ks : List KeyValue) → has_key w ks ≡ true → has_key v (w ∷ ks) ≡ has_key v ks
known_same w v ks e = if_known (same_value w v) (has_key v ks) (λ s. subst (λ u. has_key u ks ≡ true) (tells_apart exact_value w v s) e)

if_itself : (b : Bool) → (if b then true else false) ≡ b
if_itself true = refl
if_itself false = refl

if_nested : (b c d : Bool) → (if b then true else (if c then true else d)) ≡ (if (if b then true else c) then true else d)
if_nested true c d = refl
if_nested false c d = refl

if_turned : (b c d : Bool) → (if (if b then true else c) then true else d) ≡ (if c then true else (if b then true else d))
if_turned true true d = refl
if_turned true false d = refl
if_turned false c d = refl

holds_added : (w : KeyValue) (own : List ScalarKey) (k : ScalarKey) → holds_key w (own ++ k ∷ []) ≡ (if holds_key w own then true else same_value (key_value k) w)
holds_added w [] k = if_itself (same_value (key_value k) w)
holds_added w (x ∷ own) k = ap (λ b. if same_value (key_value x) w then true else b) (holds_added w own k)
    ∙ if_nested (same_value (key_value x) w) (holds_key w own) (same_value (key_value k) w)

-- an empty set has no key
pub none_more : (k : ScalarKey) (ks : List ScalarKey) → length ks ≡ 0 → list_any (is_at (key_cmp k)) ks ≡ false
none_more k [] e = refl
none_more k (x ∷ ks) e = absurd (omega (arith, e))

module _ {outer ks : List ScalarKey} {c : KeyedCollection} {l : OpenCollection} (i : IsLast outer ks c l) where
  pub own_is : drop c.first ks ≡ i.own
  own_is = ap (λ n. drop n ks) (sym i.begins) ∙ ap (λ ys. drop (length outer) ys) i.keys ∙ drop-append_seam outer i.own

  -- a key among the first few
  pub key_known : (k : ScalarKey) → true ≡ holds_key (key_value k) (drop c.first ks) → IsLast outer ks c (with_key (key_value k) l) × (true ≡ has_key (key_value k) l.keys)
  key_known k h =
      let w = key_value k in
      let is = i.collection_is in
      let held : holds_key w i.own ≡ true = ap (λ ys. holds_key w ys) (sym own_is) ∙ sym h in
      let known : has_key w l.keys ≡ true = sym (is.same_keys k) ∙ ap (λ b. if b then true else contains key_cmp c.more k) held in (
        record {
          own = i.own;
          keys = i.keys;
          begins = i.begins;
          collection_is = record { same_kind = is.same_kind; same_turn = is.same_turn; same_keys = λ v. is.same_keys v ∙ sym (known_same w (key_value v) l.keys known) };
        },
        sym known,
      )

  -- a new one, if no mapping has further keys
  pub key_pushed : (ms : List ScalarKey) (k : ScalarKey) → ms ≡ ks ++ k ∷ [] → false ≡ holds_key (key_value k) (drop c.first ks) → contains key_cmp c.more k ≡ false
      → IsLast outer ms c (with_key (key_value k) l) × (false ≡ has_key (key_value k) l.keys)
  key_pushed ms k e h m =
      let w = key_value k in
      let is = i.collection_is in
      let held : holds_key w i.own ≡ false = ap (λ ys. holds_key w ys) (sym own_is) ∙ sym h in (
        record {
          own = i.own ++ k ∷ [];
          keys = e ∙ ap (λ ys. ys ++ k ∷ []) i.keys ∙ append_assoc outer i.own (k ∷ []);
          begins = i.begins;
          collection_is = record {
            same_kind = is.same_kind;
            same_turn = is.same_turn;
            same_keys = λ v.
                ap (λ b. if b then true else contains key_cmp c.more v) (holds_added (key_value v) i.own k)
                ∙ if_turned (holds_key (key_value v) i.own) (same_value w (key_value v)) (contains key_cmp c.more v)
                ∙ ap (λ b. if same_value w (key_value v) then true else b) (is.same_keys v);
          };
        },
        sym (sym (is.same_keys k) ∙ ap (λ b. if b then true else contains key_cmp c.more k) held ∙ m),
      )

  -- a key among the further ones
  pub key_added : (d : KeyedCollection) (k : ScalarKey) (hit : Bool) → false ≡ holds_key (key_value k) (drop c.first ks)
      → ((own : List ScalarKey) (l : OpenCollection) → IsCollection own c l → holds_key (key_value k) own ≡ false
      → (d.first ≡ c.first) × IsCollection own d (with_key (key_value k) l) × (hit ≡ has_key (key_value k) l.keys))
      → IsLast outer ks d (with_key (key_value k) l) × (hit ≡ has_key (key_value k) l.keys)
  key_added d k hit h g =
      let held : holds_key (key_value k) i.own ≡ false = ap (λ ys. holds_key (key_value k) ys) (sym own_is) ∙ sym h in
      let r = g i.own l i.collection_is held in
      (record { own = i.own; keys = i.keys; begins = i.begins ∙ sym r.0; collection_is = r.1 }, r.2)

  pub turned : (d : KeyedCollection) → d.first ≡ c.first → ((own : List ScalarKey) (l : OpenCollection) → IsCollection own c l → IsCollection own d (past_key None l)) → IsLast outer ks d (past_key None l)
  turned d e g = record { own = i.own; keys = i.keys; begins = i.begins ∙ sym e; collection_is = g i.own l i.collection_is }

-- past a scalar that is a key, and past one that is not
module _ (outer ms : List ScalarKey) (c : KeyedCollection) (w : KeyValue) (l : OpenCollection) where
  key_at : (b hit : Bool) → b ≡ true
      → IsLast outer ms c (record { is_map = l.is_map; at_value = not l.at_value; keys = w ∷ (if b then l.keys else l.keys) }) × (hit ≡ has_key w (if b then l.keys else l.keys))
      → IsLast outer ms c (record { is_map = l.is_map; at_value = not l.at_value; keys = if b then w ∷ l.keys else l.keys }) × (hit ≡ (b && has_key w l.keys))
  key_at true hit e x = x
  key_at false hit e x = absurd (true≢false (sym e))

  no_key_at : (b : Bool) → b ≡ false → IsLast outer ms c (record { is_map = l.is_map; at_value = not l.at_value; keys = if b then l.keys else l.keys })
      → IsLast outer ms c (record { is_map = l.is_map; at_value = not l.at_value; keys = if b then w ∷ l.keys else l.keys }) × (false ≡ (b && has_key w l.keys))
  no_key_at true e x = absurd (true≢false e)
  no_key_at false e x = (x, refl)

  pub key_passed : (hit : Bool) → takes_key l ≡ true → IsLast outer ms c (with_key w (past_key None l)) × (hit ≡ has_key w (past_key None l).keys)
      → IsLast outer ms c (past_key (Some w) l) × (hit ≡ (takes_key l && has_key w l.keys))
  key_passed hit e x = key_at (takes_key l) hit e x

  pub value_passed : takes_key l ≡ false → IsLast outer ms c (past_key None l) → IsLast outer ms c (past_key (Some w) l) × (false ≡ (takes_key l && has_key w l.keys))
  value_passed e x = no_key_at (takes_key l) e x

-- the last of a list

pub last_same : {A : Type 0} (xs rest : List A) (a b : A) → xs ≡ rest ++ b ∷ [] → length rest ≡ length xs - 1 → Some a ≡ slice_get xs (length xs - 1) → a ≡ b
last_same xs rest a b p n e = same_Some _ _ (e ∙ ap (λ k. slice_get xs k) (sym n) ∙ ap (λ ys. slice_get ys (length rest)) p ∙ got_last rest b)
