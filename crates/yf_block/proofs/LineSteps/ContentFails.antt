-- No node is found on a line: nothing that may be a leaf follows its properties, or the properties don't go together.
use Rattle.std.proofs.Common.{◌≡◌, ◌≢◌, ℕ, ℤ, pos, ◌+ℤ◌, ◌<◌, ◌≤◌, Bool, true, false, List, Option, Some, None, refl, sym, ◌∙◌, subst, arith, inl, inr, ⊎_elim, true≢false}
use Rattle.std.proofs.lemmas.Bool.{cases_lt}
use Rattle.std.proofs.lemmas.Bool.Decides.{nat_tests}
use Rattle.std.specs.Str.{IsUtf8}
use Rattle.yf_chars.specs.declared.context.Ctx.TheVariants.{FlowKey}
use Rattle.yf_chars.specs.Text.{code}
use Rattle.yf_chars.specs.Class.{is_white}
use Rattle.yf_chars.specs.Chain.{Stuck, Chosen, Many}
use Rattle.yf_comments.specs.Comments.{LineEnd}
use Rattle.yf_props.specs.Names.{Properties, PropertiesValue}
use Rattle.yf_events.specs.declared.event.Entry as TheEntry
use Rattle.yf_events.specs.declared.part.Part.{Part}
use Rattle.yf_block_scalar.specs.Header.BlockHeader.{block_header}
use Rattle.yf_block_scalar.specs.Header.{Style}
use Rattle.yf_block_scalar.specs.Header.Style.{literal_sign, folded_sign}
use Rattle.yf_grammar.specs.Productions.Meaning.{Meaning}
use Rattle.yf_grammar.specs.FlowReader.Parser.{begins_alias, begins_properties}
use Rattle.yf_grammar.specs.Productions.BlockScalar.{BlockScalar}
use Rattle.yf_grammar.specs.Productions.BlockScalar.BlockScalar.{block_scalar}
use Rattle.yf_grammar.specs.BlockReader.BlockParser.{Ahead, Props, PropertiesHeld as HeldValue, Columns, NoSign, NoKeyAt, BlockTask, Inline, Whole}
use Rattle.yf_grammar.specs.BlockReader.BlockParser.Whole.{properties_leaf, properties_alone_missed, properties_apart, leaf_there}
use Rattle.yf_grammar.specs.BlockReader.Halts.{Halts}
use Rattle.yf_grammar.specs.BlockReader.Halts.Halts.{halts_properties_leaf, halts_properties_missed, halts_properties_apart, halts_leaf}
use Rattle.yf_grammar.specs.BlockReader.BlockStack.{asked}
use Rattle.yf_grammar.proofs.Ends.Forward.{whites_forward}
use Rattle.yf_flow.specs.declared.node.Lead.{Lead}
use Rattle.yf_block.specs.declared.frame.Frame.{Frame}
use Rattle.yf_block.specs.declared.frame.BlockCursor.{BlockCursor}
use Rattle.yf_block.specs.declared.properties.PlacedProperties.{PlacedProperties}
use Rattle.yf_block.specs.BlockStepTied.{AtFailed}
use Rattle.yf_block.specs.BelongingTied.{OfOther, two_alike, before_alias, OthersBefore}
use Rattle.yf_block.specs.ContentTied.{TextAfter, text_alone, text_held, ScalarSignAt}
use Rattle.yf_block.specs.PropertiesAnswers.{LineProperties, NoPlaceAfter, other_beside, property_after}
use Rattle.yf_block.specs.InlineAnswers.{InlineLost}
use Rattle.yf_block.specs.InlineAnswers as Answers
use Rattle.yf_block.specs.InlineTied.{AtStart}
use Rattle.yf_block.proofs.LineSteps.ContentNodes.{no_key_here, lost_keyless, Whose, of_one, of_two, whose, joined_props, NoLeaf, leaf_refuses, leaf_lost}
use Rattle.yf_block.proofs.Ends.KeyNodes.{content_node}
use Rattle.yf_block.proofs.Stack.TiedFailed.{broken_fails}
use Rattle.yf_block.proofs.Stack.TiedOpenings.{node_missing}
use Rattle.yf_block.proofs.Ends.InlineLemmas.{alias_there}

-- only a `|` or a `>` begins a block scalar
bar_of_style : {t : List ℕ} {i j : ℕ} {f : Bool} → Style t i j f → ScalarSignAt t i
bar_of_style (literal_sign e) = inl e
bar_of_style (folded_sign e) = inr e

pub no_scalar : {t : List ℕ} {n : ℤ} {p : ℕ} → (ScalarSignAt t p → ⊥) → Stuck (BlockScalar t n p)
no_scalar {t} {n} {p} f = record { none = λ j x d. go d } where
  go : {j : ℕ} {x : Meaning} → BlockScalar t n p j x → ⊥
  go (block_scalar (block_header s m r) b l) = f (bar_of_style s)

pub other_no_scalar : {t : List ℕ} {n : ℤ} {p c : ℕ} → code t p ≡ c → c ≢ 124 → c ≢ 62 → Stuck (BlockScalar t n p)
other_no_scalar e a b = no_scalar (λ s. ⊎_elim (λ q. a (sym e ∙ q)) (λ q. b (sym e ∙ q)) s)

property_no_bar : (c : ℕ) → begins_properties c ≡ true → (c ≢ 124) × (c ≢ 62)
unfolding begins_properties
property_no_bar c e = (λ f. grind (arith, nat_tests), λ f. grind (arith, nat_tests))

-- the node has only the state of its line ahead, or properties
abbrev pub Leads : Ahead → Option PlacedProperties → Ahead → Type 0
Leads a None z = z ≡ a
Leads a (Some held) z = (h : HeldValue) × (z ≡ Props h)

module _ {t : List ℕ} {d : ℕ} {root : BlockTask} {before part : Part} {frames : List Frame} {cols : Columns} {p : ℕ} {progress : BlockCursor}
    (a : AtStart t d root before frames cols p progress part) (s : NoSign t cols p) where
  pub missing : Whole t a.room (Inline a.indentation a.context cols a.ahead p) None → Halts t a.room (asked a.layers) (Inline a.indentation a.context cols a.ahead p) None → AtFailed t d root progress
  missing w u = broken_fails (node_missing a.node w u) a.stack.halted

  pub leaf_of : {g k : ℕ} {q : PropertiesValue} {w : List ℕ} → NoKeyAt t a.room a.indentation cols p → Chosen (Properties t (pos 0) FlowKey p) g q → Stuck (LineEnd t g) → Many t is_white g k w
      → is_white (code t k) ≡ false → ((z : Ahead) → (h : HeldValue) × (z ≡ Props h) → NoLeaf t a.room (asked a.layers) a.indentation z k) → AtFailed t d root progress
  leaf_of {g} {k} {q} n c l m f leaf = ⊎_elim
      (λ (o : g < k). of_whose o (whose a.ahead q p g))
      (λ (o : k ≤ g).
      let v = whites_forward m in
      let same : k ≡ g = omega (arith, o, v) in
      let f' = subst (λ (z : ℕ). is_white (code t z) ≡ false) same f in
      missing (properties_alone_missed s n c l f') (halts_properties_missed s n c l f'))
      (cases_lt g k) where
        of_whose : g < k → Whose a.ahead q p g → AtFailed t d root progress
        of_whose o (of_one {z = z} j) = let r = leaf z (joined_props j) in missing (properties_leaf s n c l m o f j r.whole) (halts_properties_leaf s n c l m o f j r.halted)
        of_whose o (of_two x) = missing (properties_apart s n c l x) (halts_properties_apart s n c l x)

  -- no leaf is after the properties
  pub leaf_fails : {inner : Option PlacedProperties} {at : ℕ} → TextAfter t p inner at → NoKeyAt t a.room a.indentation cols p
      → ((z : Ahead) → Leads a.ahead inner z → NoLeaf t a.room (asked a.layers) a.indentation z at) → AtFailed t d root progress
  leaf_fails (text_alone q) n f = let r = f a.ahead refl in missing (leaf_there s n q r.whole) (halts_leaf s n q r.halted)
  leaf_fails (text_held l q b) n f = leaf_of n l.chosen q b.run b.no_white f

  indent : pos progress.wanted.least ≡ a.indentation +ℤ pos 1
  indent = a.wanted.least

  utf8 : IsUtf8 t
  utf8 = a.read.text.utf8

  lost_leaf : {inner : Option PlacedProperties} {at : ℕ} (z : Ahead) → InlineLost t a.room (a.indentation +ℤ pos 1) at inner → (ScalarSignAt t at → ⊥) → Leads a.ahead inner z → NoLeaf t a.room (asked a.layers) a.indentation z at
  lost_leaf z (Answers.content_lost k y r) n l = leaf_lost (no_scalar n) (λ m. content_node y m.no_props r)
  lost_leaf z (Answers.alias_lost q r) n l = leaf_lost (no_scalar n) (λ m. r)
  lost_leaf z (Answers.alias_after {properties = h} k q y) n l =
      let props : (g : HeldValue) × (z ≡ Props g) = subst (λ j. Leads a.ahead j z) q l in
      leaf_refuses (no_scalar n) (λ m. true≢false (sym y ∙ m.no_alias props.1))

  -- nothing that was read is a node
  pub inline_fails : {inner : Option PlacedProperties} {at : ℕ} → TextAfter t p inner at → InlineLost t a.room (pos progress.wanted.least) at inner → (ScalarSignAt t at → ⊥) → AtFailed t d root progress
  inline_fails {inner} {at} x i n =
      let i' = subst (λ y. InlineLost t a.room y at inner) indent i in
      leaf_fails x (no_key_here x (lost_keyless utf8 x i')) (λ z l. lost_leaf z i' n l)

  -- the properties of earlier lines belong to no node on the line
  pub apart_fails : {inner : Option PlacedProperties} {at : ℕ} {entry : Option TheEntry.Entry} {lead : Lead} → TextAfter t p inner at → NoKeyAt t a.room a.indentation cols p → OthersBefore t p at a.ahead inner entry lead
      → AtFailed t d root progress
  apart_fails {inner} {at} x n o = go x o.other where
    of_alias : {k : ℕ} → code t k ≡ 42 → (z : Ahead) → (h : HeldValue) × (z ≡ Props h) → NoLeaf t a.room (asked a.layers) a.indentation z k
    of_alias {k} c z l = leaf_refuses (other_no_scalar c (λ e. omega (arith, e)) (λ e. omega (arith, e))) (λ m. true≢false (sym (alias_there (code t k) c) ∙ m.no_alias l.1))

    alias_fails : {i : Option PlacedProperties} {k : ℕ} → TextAfter t p i k → code t k ≡ 42 → AtFailed t d root progress
    alias_fails (text_alone q) c = leaf_fails (text_alone q) n (λ z l. of_alias c z (o.before, l ∙ o.is))
    alias_fails (text_held l q b) c = leaf_fails (text_held l q b) n (λ z l. of_alias c z l)

    go : {i : Option PlacedProperties} {k : ℕ} → TextAfter t p i k → OfOther t p k a.ahead i → AtFailed t d root progress
    go y (before_alias c) = alias_fails y c
    go (text_held l q b) (two_alike m r) = missing (properties_apart s n m.chosen (subst (λ (z : ℕ). Stuck (LineEnd t z)) refl q) r) (halts_properties_apart s n m.chosen q r)

  -- nothing may be after the properties
  pub nowhere_fails : {held : PlacedProperties} (l : LineProperties t p held) → Stuck (LineEnd t held.end) → NoPlaceAfter t held.end → NoKeyAt t a.room a.indentation cols p → AtFailed t d root progress
  nowhere_fails l q (other_beside f c) n = missing (properties_alone_missed s n l.chosen q f) (halts_properties_missed s n l.chosen q f)
  nowhere_fails l q (property_after {p = k} m f b) n =
      let bars = property_no_bar (code t k) b in
      leaf_of n l.chosen q m f (λ z h. leaf_refuses (other_no_scalar refl bars.0 bars.1) (λ r. true≢false (sym b ∙ r.no_props)))
