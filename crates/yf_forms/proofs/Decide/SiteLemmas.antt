-- The pass finds for a node at its site the values of the definitions: whether it is kept, whether it is an implicit
-- key, and the margins of its key and its value.
use Rattle.std.proofs.Common.{◌≡◌, ℕ, ◌+◌, ◌-◌, ◌≤◌, Bool, true, false, not, ◌&&◌, List, refl, ap, ◌∙◌, arith}
use Rattle.std.specs.Prelude.{◌^◌, min, nat_lt, nat_le, if◌then◌else◌}
use Rattle.std.proofs.lemmas.Bool.Decides.{nat_tests}
use Rattle.yf_events.specs.declared.event.ScalarStyle.TheVariants.{Plain, Single, Double, Literal, Folded}
use Rattle.yf_forms.specs.declared.style.Style.{Style}
use Rattle.yf_forms.specs.Passes.DecidePass.{further, has_room, may_be_implicit, is_kept}
use Rattle.yf_forms.specs.NormalForms.Forms.{is_kept_at}
use Rattle.yf_forms.specs.Nodes.OneLineFlows.{may_be_kept}
use Rattle.yf_forms.specs.NormalForms.Measures.{up_to_greatest, width_if, is_one_line, measure_of}
use Rattle.yf_forms.specs.NormalForms.Normal.{LayoutSetting, Margins, styled, fits, is_implicit}
use Rattle.yf_forms.specs.Nodes.OneLine.{width, written}
use Rattle.yf_events.specs.Tree.{Node, scalar, alias, sequence, mapping, no_items, item, no_pairs, pair, is_filled_flow}

-- cut numbers

pub cut_room : (s : Style) (column w : ℕ) → nat_le (further (up_to_greatest column) (up_to_greatest w)) s.max_line ≡ nat_le (column + w) s.max_line
cut_room s column w = room column w s.max_line s.max_line_to where
  room : (column w m : ℕ) → m ≤ 1000 → nat_le (min (min column (2 ^ 64 - 1) + min w (2 ^ 64 - 1)) (2 ^ 64 - 1)) m ≡ nat_le (column + w) m
  room column w m l = grind (arith, nat_tests)

pub cut_key : (w : ℕ) → nat_lt 1023 (up_to_greatest w) ≡ not (nat_le w 1023)
cut_key w = by w where
  by : (w : ℕ) → nat_lt 1023 (min w (2 ^ 64 - 1)) ≡ not (nat_le w 1023)
  by w = grind (arith, nat_tests)

pub cut_twice : (a b : ℕ) → further (up_to_greatest a) b ≡ up_to_greatest (a + b)
cut_twice a b = omega arith

-- a flow collection with entries stays one if it may be kept

pub can_be_kept : (t : List ℕ) (m : LayoutSetting) (x : Node) → (is_filled_flow x && may_be_kept t m.comments x) ≡ is_filled_flow (styled t m x)
can_be_kept t m (scalar at props style text lines) = refl
can_be_kept t m (alias at name) = refl
can_be_kept t m (sequence at flow props no_items) = refl
can_be_kept t m (sequence at true props (item x xs)) = refl
can_be_kept t m (sequence at false props (item x xs)) = refl
can_be_kept t m (mapping at flow props no_pairs) = refl
can_be_kept t m (mapping at true props (pair k v ps)) = refl
can_be_kept t m (mapping at false props (pair k v ps)) = refl

-- a node fits if its width does

filled_one_line : (x : Node) → is_filled_flow x ≡ true → is_one_line x ≡ true
filled_one_line (scalar at props style text lines) e = absurd cc
filled_one_line (alias at name) e = absurd cc
filled_one_line (sequence at flow props no_items) e = absurd cc
filled_one_line (sequence at flow props (item x xs)) e = e
filled_one_line (mapping at flow props no_pairs) e = absurd cc
filled_one_line (mapping at flow props (pair k v ps)) e = e

room_of : (s : Style) (column : ℕ) (x : Node) → is_one_line x ≡ true
    → has_room s (up_to_greatest column) (width_if (is_one_line x) (written s x)) ≡ fits s column x
room_of s column x e = ap (λ b. has_room s (up_to_greatest column) (width_if b (written s x))) e ∙ cut_room s column (width (written s x))

-- a flow collection with entries has room if and only if it fits
pub filled_room : (s : Style) (column : ℕ) (x : Node) → is_filled_flow x ≡ true
    → has_room s (up_to_greatest column) (width_if (is_one_line x) (written s x)) ≡ fits s column x
filled_room s column x e = room_of s column x (filled_one_line x e)

pub is_kept_there : (t : List ℕ) (m : LayoutSetting) (margins : Margins) (i : ℕ) (x : Node)
    → is_kept m.style (up_to_greatest margins.column) (measure_of t m i x) ≡ is_kept_at m.style margins (styled t m x)
is_kept_there t m margins i x = rw (can_be_kept t m x) (by (is_filled_flow (styled t m x)) refl) where
  by : (b : Bool) → is_filled_flow (styled t m x) ≡ b
      → (b && has_room m.style (up_to_greatest margins.column) (width_if (is_one_line (styled t m x)) (written m.style (styled t m x)))) ≡ (b && fits m.style margins.column (styled t m x))
  by true e = filled_room m.style margins.column (styled t m x) e
  by false e = refl

-- the width of a key decides whether it is implicit

implicit_leaf : (s : Style) (column : ℕ) (text : List ℕ) (b : Bool)
    → may_be_implicit s (up_to_greatest column) false (width_if b text) ≡ (b && nat_le (width text) 1023)
implicit_leaf s column text false = refl
implicit_leaf s column text true = rw (cut_key (width text)) (by (nat_le (width text) 1023)) where
  by : (b : Bool) → (if not b then false else true) ≡ b
  by true = refl
  by false = refl

implicit_filled : (s : Style) (column : ℕ) (x : Node) (b : Bool)
    → may_be_implicit s (up_to_greatest column) b (width_if b (written s x)) ≡ ((b && fits s column x) && nat_le (width (written s x)) 1023)
implicit_filled s column x false = refl
implicit_filled s column x true =
    rw (cut_key (width (written s x)), cut_room s column (width (written s x))) (by (nat_le (width (written s x)) 1023) (fits s column x)) where
      by : (b c : Bool) → (if not b then false else c) ≡ (c && b)
      by true true = refl
      by true false = refl
      by false true = refl
      by false false = refl

implicit_styled : (s : Style) (column : ℕ) (x : Node)
    → may_be_implicit s (up_to_greatest column) (is_filled_flow x) (width_if (is_one_line x) (written s x)) ≡ is_implicit s column x
implicit_styled s column (scalar at props Plain text lines) = implicit_leaf s column _ true
implicit_styled s column (scalar at props Single text lines) = implicit_leaf s column _ true
implicit_styled s column (scalar at props Double text lines) = implicit_leaf s column _ true
implicit_styled s column (scalar at props Literal text lines) = refl
implicit_styled s column (scalar at props Folded text lines) = refl
implicit_styled s column (alias at name) = implicit_leaf s column _ true
implicit_styled s column (sequence at flow props no_items) = implicit_leaf s column _ true
implicit_styled s column (sequence at flow props (item x xs)) = implicit_filled s column (sequence at flow props (item x xs)) flow
implicit_styled s column (mapping at flow props no_pairs) = implicit_leaf s column _ true
implicit_styled s column (mapping at flow props (pair k v ps)) = implicit_filled s column (mapping at flow props (pair k v ps)) flow

pub is_implicit_there : (t : List ℕ) (m : LayoutSetting) (column i : ℕ) (x : Node)
    → may_be_implicit m.style (up_to_greatest column) (measure_of t m i x).can_be_kept (measure_of t m i x).width ≡ is_implicit m.style column (styled t m x)
is_implicit_there t m column i x =
    ap (λ b. may_be_implicit m.style (up_to_greatest column) b (width_if (is_one_line (styled t m x)) (written m.style (styled t m x)))) (can_be_kept t m x)
    ∙ implicit_styled m.style column (styled t m x)
