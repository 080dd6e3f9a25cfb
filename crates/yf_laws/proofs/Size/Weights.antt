-- A lower bound of the bytes of a text for the events and the comments of a reading: a number for each of them.
use Rattle.std.proofs.Common.{◌≡◌, ℕ, zero, suc, ◌+◌, ◌≤◌, Bool, true, false, List, [], ◌∷◌, ◌++◌, length, Option, Some, None, refl, sym, subst, arith, append_assoc}
use Rattle.std.specs.Prelude.{max}
use Rattle.yf_comments.specs.Comment.{CommentValue}
use Rattle.yf_props.specs.Props.{PropsValue}
use Rattle.yf_block_scalar.specs.Content.{literal}
use Rattle.yf_events.specs.Event.{EventValue, EventInText, stream_starts, stream_ends, document_starts, document_ends, sequence_starts, sequence_ends, mapping_starts, mapping_ends, scalar_node, alias_node}
use Rattle.yf_events.specs.declared.event.Entry.{Entry}
use Rattle.yf_events.specs.declared.event.ScalarStyle.{ScalarStyle}
use Rattle.yf_events.specs.declared.event.ScalarStyle.TheVariants.{Plain, Single, Double, Literal, Folded}
use Rattle.yf_forms.specs.Nodes.OneLine.{anchor_text, tag_text}

-- half of a number, or half of the next one
abbrev pub half : ℕ → ℕ
half zero = zero
half (suc zero) = suc zero
half (suc (suc n)) = suc (half n)

pub half_low : (n : ℕ) → n ≤ half n + half n
half_low zero = omega arith
half_low (suc zero) = omega arith
half_low (suc (suc n)) = let l = half_low n in omega (arith, l)

pub half_high : (n m : ℕ) → n ≤ m + m → half n ≤ m
half_high zero m l = omega arith
half_high (suc zero) zero l = absurd (omega (arith, l))
half_high (suc zero) (suc m) l = omega arith
half_high (suc (suc n)) zero l = absurd (omega (arith, l))
half_high (suc (suc n)) (suc m) l = let k : half n ≤ m = half_high n m (omega (arith, l)) in omega (arith, k)

-- a scalar without its properties: in double quotes two bytes of the text may be three of the content (`\L`), so only
-- half of its length is required
abbrev pub text_weight : ScalarStyle → List ℕ → List (List ℕ) → ℕ
text_weight Plain text lines = length text
text_weight Single text lines = half (length text) + 2
text_weight Double text lines = half (length text) + 2
text_weight Literal text lines = suc (length text)
text_weight Folded text lines = suc (max (length text) (length (literal lines)))

-- properties, without the separation between them
abbrev pub props_weight : PropsValue → ℕ
props_weight props = length (anchor_text props.anchor) + length (tag_text props.tag)

abbrev pub value_weight : EventValue → List (List ℕ) → ℕ
value_weight stream_starts lines = 0
value_weight stream_ends lines = 0
value_weight (document_starts marked) lines = 0
value_weight (document_ends marked) lines = 0
value_weight (sequence_starts flow props) lines = props_weight props
value_weight sequence_ends lines = 0
value_weight (mapping_starts flow props) lines = props_weight props
value_weight mapping_ends lines = 0
value_weight (scalar_node props style text) lines = props_weight props + text_weight style text lines
value_weight (alias_node name) lines = suc (length name)

-- an entry has a byte that isn't its node's: its sign, or a byte between it and the next entry
abbrev pub entry_weight : Option Entry → ℕ
entry_weight None = 0
entry_weight (Some e) = 1

abbrev pub opens : EventValue → Bool
opens stream_starts = false
opens stream_ends = false
opens (document_starts marked) = false
opens (document_ends marked) = false
opens (sequence_starts flow props) = true
opens sequence_ends = false
opens (mapping_starts flow props) = true
opens mapping_ends = false
opens (scalar_node props style text) = false
opens (alias_node name) = false

abbrev pub one_if : Bool → ℕ
one_if true = 1
one_if false = 0

-- the end of a collection directly after its beginning has a byte: the bracket of an empty collection
abbrev pub closing : EventValue → Bool → ℕ
closing stream_starts empty = 0
closing stream_ends empty = 0
closing (document_starts marked) empty = 0
closing (document_ends marked) empty = 0
closing (sequence_starts flow props) empty = 0
closing sequence_ends empty = one_if empty
closing (mapping_starts flow props) empty = 0
closing mapping_ends empty = one_if empty
closing (scalar_node props style text) empty = 0
closing (alias_node name) empty = 0

-- for events after one that begins a collection, or after another one
abbrev pub weigh : Bool → List EventInText → ℕ
weigh after [] = 0
weigh after (e ∷ es) = (value_weight e.event e.folded + entry_weight e.entry) + (closing e.event after + weigh (opens e.event) es)

pub closing_none : (e : EventValue) → closing e false ≡ 0
closing_none stream_starts = refl
closing_none stream_ends = refl
closing_none (document_starts marked) = refl
closing_none (document_ends marked) = refl
closing_none (sequence_starts flow props) = refl
closing_none sequence_ends = refl
closing_none (mapping_starts flow props) = refl
closing_none mapping_ends = refl
closing_none (scalar_node props style text) = refl
closing_none (alias_node name) = refl

pub weigh_least : (after : Bool) (es : List EventInText) → weigh false es ≤ weigh after es
weigh_least after [] = omega arith
weigh_least after (e ∷ es) = let none = closing_none e.event in omega (arith, none)

-- these events add at most n to those after them, whatever is before them
pub record Weighs (n : ℕ) (es : List EventInText) : Type 0 where
  pub adds : (after : Bool) (rest : List EventInText) → weigh after (es ++ rest) ≤ n + weigh false rest

pub weighs_more : {n m : ℕ} {es : List EventInText} → Weighs n es → n ≤ m → Weighs m es
weighs_more a l = record { adds = λ after rest. let b = a.adds after rest in omega (arith, b, l) }

pub weighs_join : {n m : ℕ} {xs ys : List EventInText} → Weighs n xs → Weighs m ys → Weighs (n + m) (xs ++ ys)
weighs_join {n} {m} {xs} {ys} a b = record {
  adds = λ after rest.
      let one = a.adds after (ys ++ rest) in
      let two = b.adds false rest in
      subst (λ z. weigh after z ≤ (n + m) + weigh false rest) (sym (append_assoc xs ys rest)) (omega (arith, one, two));
}

-- Comments: as many bytes as their texts.

abbrev pub remark_weight : List ℕ → ℕ
remark_weight [] = 1
remark_weight (b ∷ bs) = suc (length bs)

pub remark_low : (x : List ℕ) → (1 ≤ remark_weight x) × (length x ≤ remark_weight x)
remark_low [] = (omega arith, omega arith)
remark_low (b ∷ bs) = (omega arith, omega arith)

pub remark_high : (x : List ℕ) (n : ℕ) → 1 ≤ n → length x ≤ n → remark_weight x ≤ n
remark_high [] n l m = l
remark_high (b ∷ bs) n l m = m

abbrev pub remarks_weight : List CommentValue → ℕ
remarks_weight [] = 0
remarks_weight (c ∷ cs) = remark_weight c.text + remarks_weight cs

pub remarks_append : (xs ys : List CommentValue) → remarks_weight (xs ++ ys) ≡ remarks_weight xs + remarks_weight ys
remarks_append [] ys = omega arith
remarks_append (x ∷ xs) ys = let l = remarks_append xs ys in omega (arith, l)
