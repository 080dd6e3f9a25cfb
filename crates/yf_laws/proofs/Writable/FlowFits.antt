-- A flow collection on one line with parts that read back reads back.
use Rattle.std.proofs.Common.{◌≡◌, ℕ, max, ◌+◌, ◌<◌, ◌≤◌, Bool, true, false, List, [], ◌∷◌, ◌++◌, length, pos, Option, Some, None, refl, sym, ap, ◌∙◌, subst, arith, append_assoc, append-nil}
use Rattle.std.specs.Prelude.{is_some}
use Rattle.std.specs.Str.{IsUtf8}
use Rattle.yf_chars.specs.declared.context.Ctx.{Ctx}
use Rattle.yf_chars.specs.declared.context.Ctx.TheVariants.{FlowOut}
use Rattle.yf_lines.specs.Basic.{is_block}
use Rattle.yf_lines.specs.LineText.{IsLineText}
use Rattle.yf_lines.specs.Rest.{Rest}
use Rattle.yf_lines.proofs.RestLemmas.{rest_ascii}
use Rattle.yf_props.specs.Props.{PropsValue, no_props}
use Rattle.yf_props.specs.Written.{props_bytes, tag_offset_at}
use Rattle.yf_events.specs.Alike.{alike_nothing, alike_no_pairs}
use Rattle.yf_events.specs.Tree.{NodeOffsets, Node, sequence, mapping, Items, no_items, item, Pairs, no_pairs, pair}
use Rattle.yf_grammar.specs.Productions.OneLineTexts.{Back, JsonBack, EntryBack, EntriesBack}
use Rattle.yf_grammar.specs.Productions.Grammar.{in_flow}
use Rattle.yf_grammar.specs.Productions.Meaning.{Meaning, ◌⊕◌, collection, entering, with_props}
use Rattle.yf_grammar.specs.Productions.TreesOfMeaning.{MeansTrees, ItemsMeant, PairsMeant, tall, tall_items, tall_pairs}
use Rattle.yf_grammar.proofs.WrittenTexts.FlowBack.{empty_json_back, collection_json_back, last_back, more_back, item_back}
use Rattle.yf_grammar.proofs.WrittenTexts.LeafBack.{json_back, json_props_back, propertied}
use Rattle.yf_grammar.proofs.NodesInText.MeantLemmas.{meant_entering, last_pair_meant, more_pairs_meant, last_item_meant, more_items_meant, sequence_meant, mapping_meant, sequence_with_meant, mapping_with_meant}
use Rattle.yf_grammar.proofs.WrittenTexts.PairsBack.{pair_back, pair_apart_back}
use Rattle.yf_forms.specs.declared.style.Style.{Style}
use Rattle.yf_laws.proofs.Writable.FitFlows.{FitFlow, flow_leaf, flow_no_items, flow_no_pairs, flow_sequence, flow_mapping, FitFlowItems, flow_last_item, flow_item, FitFlowPairs, flow_last_pair, flow_pair}
use Rattle.yf_laws.specs.Layouts.ReadableTrees.{FitProps, no_fit_props, some_fit_props, ColonFits, colon_at_once, colon_apart, InlineNode}
use Rattle.yf_laws.specs.Layouts.WrittenQuotes.{QuotesWritten, no_quotes}
use Rattle.yf_forms.specs.Nodes.OneLine.{spaced, props_text, written, bare, more_items, more_pairs, colon_after}
use Rattle.yf_laws.proofs.Derived.ClearRows.{unmarked_first}
use Rattle.yf_laws.proofs.Writable.LeafFits.{props_before, unmarked_with, no_comments_with, line_node}
use Rattle.yf_laws.proofs.OutputLines.HeldLemmas.{entering_silent}
use Rattle.yf_laws.proofs.Writable.WrittenQuotes.{collection_quotes, collection_with_quotes, entering_quotes, meanings_quotes, past_two}
use Rattle.yf_grammar.proofs.FlowReader.FlowStarts.{in_flow_not_block}

-- Comments: none.

silent_both : (x y : Meaning) → x.comments ≡ [] → y.comments ≡ [] → (x ⊕ y).comments ≡ []
unfolding ◌⊕◌
silent_both x y e f = ap (λ z. z ++ y.comments) e ∙ f

silent_collection : (s f : Bool) (i j : ℕ) (x : Meaning) → x.comments ≡ [] → (collection s f i j x).comments ≡ []
unfolding collection
silent_collection s f i j x e = e

-- Parts of a text.

rest_of : {t : List ℕ} {q : ℕ} (x y r : List ℕ) → Rest t q ((x ++ y) ++ r) → Rest t q (x ++ (y ++ r))
rest_of {t} {q} x y r z = subst (λ w. Rest t q w) (append_assoc x y r) z

past_three : {t : List ℕ} {q : ℕ} (x y r : List ℕ) → IsUtf8 t → IsLineText x → Rest t q ((x ++ (32 ∷ 58 ∷ 32 ∷ y)) ++ r) → Rest t (q + length x + 1 + 2) (y ++ r)
past_three {t} {q} x y r u line z =
    let two : Rest t (q + length x + 2) ((32 ∷ y) ++ r) = past_two x 32 58 (32 ∷ y) r u line (omega arith) (omega arith) (omega arith) (omega arith) z in
    subst (λ k. Rest t k (y ++ r)) (omega arith) (rest_ascii 32 u (omega arith) (λ e. omega (arith, e)) two).1

-- Entries.

record ItemsNode (house : Style) (c : Ctx) (x : Node) (xs : Items) : Type 0 where
  pub text : List ℕ
  pub is : written house x ++ more_items house xs ≡ text
  pub height : ℕ
  pub mean : ℕ → Meaning
  pub back : EntriesBack true c text height mean
  pub low : height ≤ tall_items (item x xs)
  pub meant : (q : ℕ) → ItemsMeant (item x xs) (mean q)
  pub silent : (q : ℕ) → (mean q).comments ≡ []
  pub quoted : (t : List ℕ) (q : ℕ) (r : List ℕ) → IsUtf8 t → Rest t q (text ++ r) → QuotesWritten house t (mean q).events

one_item : (house : Style) {c : Ctx} {x : Node} → InlineNode house c x → ItemsNode house c x no_items
one_item house {c} {x} n =
    let low : n.node.height ≤ tall x = n.node.low in
    record {
      text = written house x;
      is = append-nil (written house x);
      height = n.node.height;
      mean = λ q. entering q None (n.node.mean q);
      back = last_back (item_back n.node.back);
      low = omega (arith, low);
      meant = λ q. last_item_meant (meant_entering q None (n.node.meant q));
      silent = λ q. entering_silent q None (n.node.mean q) (n.node.silent q);
      quoted = λ t q r u z. entering_quotes q None (n.node.mean q) (n.node.quoted t q r u z);
    }

another_item : (house : Style) {c : Ctx} {x y : Node} {ys : Items} → InlineNode house c x → ItemsNode house c y ys → ItemsNode house c x (item y ys)
another_item house {c} {x} {y} {ys} n o =
    let low : n.node.height ≤ tall x = n.node.low in
    let high : o.height ≤ tall_items (item y ys) = o.low in
    record {
      text = written house x ++ (44 ∷ 32 ∷ o.text);
      is = ap (λ z. written house x ++ (44 ∷ 32 ∷ z)) o.is;
      height = max n.node.height o.height;
      mean = λ q. entering q None (n.node.mean q) ⊕ o.mean (q + length (written house x) + 2);
      back = more_back (item_back n.node.back) o.back;
      low = omega (arith, low, high);
      meant = λ q. more_items_meant (meant_entering q None (n.node.meant q)) (o.meant (q + length (written house x) + 2));
      silent = λ q. silent_both (entering q None (n.node.mean q)) (o.mean (q + length (written house x) + 2)) (entering_silent q None (n.node.mean q) (n.node.silent q)) (o.silent (q + length (written house x) + 2));
      quoted = λ t q r u z.
          meanings_quotes (entering q None (n.node.mean q)) (o.mean (q + length (written house x) + 2)) (entering_quotes q None (n.node.mean q) (n.node.quoted t q _ u (rest_of (written house x) (44 ∷ 32 ∷ o.text) r z)))
          (o.quoted t (q + length (written house x) + 2) r u (past_two (written house x) 44 32 o.text r u n.node.back.line (omega arith) (omega arith) (omega arith) (omega arith) z));
    }

-- A pair: the key's meaning and the value's.

record PairMeant (k v : Node) (m : Meaning) : Type 0 where
  pub key : Meaning
  pub value : Meaning
  pub is : m ≡ key ⊕ value
  pub meant_key : MeansTrees k key
  pub meant_value : MeansTrees v value

last_of_pairs : {k v : Node} (m : Meaning) → PairMeant k v m → PairsMeant (pair k v no_pairs) m
last_of_pairs {k} {v} m p = subst (λ z. PairsMeant (pair k v no_pairs) z) (sym p.is) (last_pair_meant p.meant_key p.meant_value)

more_of_pairs : {k v : Node} {ps : Pairs} (m n : Meaning) → PairMeant k v m → PairsMeant ps n → PairsMeant (pair k v ps) (m ⊕ n)
more_of_pairs {k} {v} {ps} m n p o = subst (λ z. PairsMeant (pair k v ps) (z ⊕ n)) (sym p.is) (more_pairs_meant p.meant_key p.meant_value o)

record PairNode (house : Style) (c : Ctx) (k v : Node) : Type 0 where
  pub text : List ℕ
  pub is : written house k ++ (colon_after k ++ (32 ∷ written house v)) ≡ text
  pub height : ℕ
  pub mean : ℕ → Meaning
  pub back : EntryBack false c text height mean
  pub low : height ≤ max (tall k) (tall v)
  pub meant : (q : ℕ) → PairMeant k v (mean q)
  pub silent : (q : ℕ) → (mean q).comments ≡ []
  pub quoted : (t : List ℕ) (q : ℕ) (r : List ℕ) → IsUtf8 t → Rest t q (text ++ r) → QuotesWritten house t (mean q).events

pair_node : (house : Style) {c : Ctx} {k v : Node} → InlineNode house c k → InlineNode house c v → PairNode house c k v
pair_node house {c} {k} {v} n o = go (colon_after k) refl n.colon where
  low : n.node.height ≤ tall k → o.node.height ≤ tall v → max n.node.height o.node.height ≤ max (tall k) (tall v)
  low e f = omega (arith, e, f)

  go : (w : List ℕ) → colon_after k ≡ w → ColonFits n.node.colon w → PairNode house c k v
  go w e (colon_at_once f) = record {
    text = written house k ++ (58 ∷ 32 ∷ written house v);
    is = ap (λ z. written house k ++ (z ++ (32 ∷ written house v))) e;
    height = max n.node.height o.node.height;
    mean = λ q. entering q (Some (q + length (written house k))) (n.node.mean q) ⊕ o.node.mean (q + length (written house k) + 2);
    back = pair_back (subst (λ b. Back n.node.json b c (written house k) n.node.height n.node.mean) f n.node.back) o.node.back;
    low = low n.node.low o.node.low;
    meant = λ q. record {
      key = entering q (Some (q + length (written house k))) (n.node.mean q);
      value = o.node.mean (q + length (written house k) + 2);
      is = refl;
      meant_key = meant_entering q (Some (q + length (written house k))) (n.node.meant q);
      meant_value = o.node.meant (q + length (written house k) + 2);
    };
    silent = λ q. silent_both (entering q (Some (q + length (written house k))) (n.node.mean q)) (o.node.mean (q + length (written house k) + 2))
        (entering_silent q (Some (q + length (written house k))) (n.node.mean q) (n.node.silent q)) (o.node.silent (q + length (written house k) + 2));
    quoted = λ t q r u z.
        meanings_quotes (entering q (Some (q + length (written house k))) (n.node.mean q)) (o.node.mean (q + length (written house k) + 2))
        (entering_quotes q (Some (q + length (written house k))) (n.node.mean q) (n.node.quoted t q _ u (rest_of (written house k) (58 ∷ 32 ∷ written house v) r z)))
        (o.node.quoted t (q + length (written house k) + 2) r u (past_two (written house k) 58 32 (written house v) r u n.node.back.line (omega arith) (omega arith) (omega arith) (omega arith) z));
  }
  go w e colon_apart = record {
    text = written house k ++ (32 ∷ 58 ∷ 32 ∷ written house v);
    is = ap (λ z. written house k ++ (z ++ (32 ∷ written house v))) e;
    height = max n.node.height o.node.height;
    mean = λ q. entering q (Some (q + length (written house k) + 1)) (n.node.mean q) ⊕ o.node.mean (q + length (written house k) + 1 + 2);
    back = pair_apart_back n.node.back o.node.back;
    low = low n.node.low o.node.low;
    meant = λ q. record {
      key = entering q (Some (q + length (written house k) + 1)) (n.node.mean q);
      value = o.node.mean (q + length (written house k) + 1 + 2);
      is = refl;
      meant_key = meant_entering q (Some (q + length (written house k) + 1)) (n.node.meant q);
      meant_value = o.node.meant (q + length (written house k) + 1 + 2);
    };
    silent = λ q. silent_both (entering q (Some (q + length (written house k) + 1)) (n.node.mean q)) (o.node.mean (q + length (written house k) + 1 + 2))
        (entering_silent q (Some (q + length (written house k) + 1)) (n.node.mean q) (n.node.silent q)) (o.node.silent (q + length (written house k) + 1 + 2));
    quoted = λ t q r u z.
        meanings_quotes (entering q (Some (q + length (written house k) + 1)) (n.node.mean q)) (o.node.mean (q + length (written house k) + 1 + 2))
        (entering_quotes q (Some (q + length (written house k) + 1)) (n.node.mean q) (n.node.quoted t q _ u (rest_of (written house k) (32 ∷ 58 ∷ 32 ∷ written house v) r z)))
        (o.node.quoted t (q + length (written house k) + 1 + 2) r u (past_three (written house k) (written house v) r u n.node.back.line z));
  }

record PairsNode (house : Style) (c : Ctx) (k v : Node) (ps : Pairs) : Type 0 where
  pub text : List ℕ
  pub is : written house k ++ (colon_after k ++ (32 ∷ (written house v ++ more_pairs house ps))) ≡ text
  pub height : ℕ
  pub mean : ℕ → Meaning
  pub back : EntriesBack false c text height mean
  pub low : height ≤ tall_pairs (pair k v ps)
  pub meant : (q : ℕ) → PairsMeant (pair k v ps) (mean q)
  pub silent : (q : ℕ) → (mean q).comments ≡ []
  pub quoted : (t : List ℕ) (q : ℕ) (r : List ℕ) → IsUtf8 t → Rest t q (text ++ r) → QuotesWritten house t (mean q).events

regrouped : (k c v m : List ℕ) → k ++ (c ++ (32 ∷ (v ++ m))) ≡ (k ++ (c ++ (32 ∷ v))) ++ m
regrouped k c v m = sym (append_assoc k (c ++ (32 ∷ v)) m ∙ ap (λ z. k ++ z) (append_assoc c (32 ∷ v) m))

one_pair : (house : Style) {c : Ctx} {k v : Node} → PairNode house c k v → PairsNode house c k v no_pairs
one_pair house {c} {k} {v} n =
    let low : n.height ≤ max (tall k) (tall v) = n.low in
    record {
      text = n.text;
      is = ap (λ z. written house k ++ (colon_after k ++ (32 ∷ z))) (append-nil (written house v)) ∙ n.is;
      height = n.height;
      mean = n.mean;
      back = last_back n.back;
      low = omega (arith, low);
      meant = λ q. last_of_pairs (n.mean q) (n.meant q);
      silent = n.silent;
      quoted = n.quoted;
    }

another_pair : (house : Style) {c : Ctx} {k v l w : Node} {ps : Pairs} → PairNode house c k v → PairsNode house c l w ps → PairsNode house c k v (pair l w ps)
another_pair house {c} {k} {v} {l} {w} {ps} n o =
    let low : n.height ≤ max (tall k) (tall v) = n.low in
    let high : o.height ≤ tall_pairs (pair l w ps) = o.low in
    record {
      text = n.text ++ (44 ∷ 32 ∷ o.text);
      is = regrouped (written house k) (colon_after k) (written house v) (more_pairs house (pair l w ps)) ∙ (ap (λ z. z ++ more_pairs house (pair l w ps)) n.is ∙ ap (λ z. n.text ++ (44 ∷ 32 ∷ z)) o.is);
      height = max n.height o.height;
      mean = λ q. n.mean q ⊕ o.mean (q + length n.text + 2);
      back = more_back n.back o.back;
      low = omega (arith, low, high);
      meant = λ q. more_of_pairs (n.mean q) (o.mean (q + length n.text + 2)) (n.meant q) (o.meant (q + length n.text + 2));
      silent = λ q. silent_both (n.mean q) (o.mean (q + length n.text + 2)) (n.silent q) (o.silent (q + length n.text + 2));
      quoted = λ t q r u z.
          meanings_quotes (n.mean q) (o.mean (q + length n.text + 2)) (n.quoted t q _ u (rest_of n.text (44 ∷ 32 ∷ o.text) r z))
          (o.quoted t (q + length n.text + 2) r u (past_two n.text 44 32 o.text r u n.back.line (omega arith) (omega arith) (omega arith) (omega arith) z));
    }

-- Collections, with properties or without.

bracketed : (house : Style) {c : Ctx} {x : Node} {p : PropsValue} {height : ℕ} {mean : ℕ → Meaning} (b : ℕ) (w : List ℕ) → 91 ≤ b → b < 127 → FitProps p → written house x ≡ spaced (props_text p) (bare house x) → bare house x ≡ b ∷ w
    → JsonBack c (b ∷ w) height mean → height ≤ tall x → colon_after x ≡ 58 ∷ [] → ((q : ℕ) → p ≡ no_props → MeansTrees x (mean q))
    → ((o : Option ℕ) (f g q : ℕ) → MeansTrees x (with_props p o f g (mean q))) → ((q : ℕ) → (mean q).comments ≡ [])
    → ((t : List ℕ) (q : ℕ) (r : List ℕ) → IsUtf8 t → Rest t (q + 1) (w ++ r) → QuotesWritten house t (mean q).events)
    → ((o : Option ℕ) (f g q : ℕ) (t r : List ℕ) → IsUtf8 t → Rest t (q + 1) (w ++ r) → QuotesWritten house t (with_props p o f g (mean q)).events) → InlineNode house c x
bracketed house {c} {x} b w l h no_fit_props shape is back low colon meant meant_with silent quoted quoted_with =
    line_node house (b ∷ w) (shape ∙ is) (json_back back) (unmarked_first b w (omega arith) (λ e. omega arith) (λ e. omega arith) (λ e. omega arith)) low (λ q. meant q refl) silent
    (λ t q r u z. quoted t q r u (rest_ascii b u (omega (arith, h)) (λ e. omega (arith, l, e)) z).1) (subst (λ z. ColonFits true z) (sym colon) (colon_at_once refl))
bracketed house {c} {x} b w l h (some_fit_props {p = p} k n) shape is back low colon meant meant_with silent quoted quoted_with =
    line_node house (props_bytes p ++ (32 ∷ b ∷ w)) (shape ∙ (ap (λ z. spaced (props_text p) z) is ∙ props_before (b ∷ w) k n refl)) (json_props_back k n back) (unmarked_with (b ∷ w) k n) low
    (λ q. meant_with (tag_offset_at q p.anchor p.tag) q (q + length (props_bytes p)) (q + length (props_bytes p) + 1))
    (λ q. no_comments_with p (tag_offset_at q p.anchor p.tag) q (q + length (props_bytes p)) _ (silent (q + length (props_bytes p) + 1)))
    (λ t q r u z. quoted_with (tag_offset_at q p.anchor p.tag) q (q + length (props_bytes p)) (q + length (props_bytes p) + 1) t r u
    (rest_ascii b u (omega (arith, h)) (λ e. omega (arith, l, e)) (propertied (pos 0) FlowOut ((b ∷ w) ++ r) u k n (rest_of (props_bytes p) (32 ∷ b ∷ w) r z)).rest).1)
    (subst (λ z. ColonFits true z) (sym colon) (colon_at_once refl))

nothing_between : {m : Meaning} → m.events ≡ [] → m.escapes ≡ [] → ItemsMeant no_items m
nothing_between e f = record { items = no_items; alike = alike_nothing; events = e; escapes = f }

no_pair_between : {m : Meaning} → m.events ≡ [] → m.escapes ≡ [] → PairsMeant no_pairs m
no_pair_between e f = record { pairs = no_pairs; alike = alike_no_pairs; events = e; escapes = f }

bare_first : (house : Style) (at : NodeOffsets) (p : PropsValue) (x : Node) (xs : Items) (w : List ℕ) → written house x ++ more_items house xs ≡ w → bare house (sequence at true p (item x xs)) ≡ 91 ∷ (w ++ 93 ∷ [])
bare_first house at p x xs w e = ap (λ z. 91 ∷ z) (sym (append_assoc (written house x) (more_items house xs) (93 ∷ [])) ∙ ap (λ z. z ++ 93 ∷ []) e)

bare_pairs : (house : Style) (at : NodeOffsets) (p : PropsValue) (k v : Node) (ps : Pairs) (w : List ℕ) → written house k ++ (colon_after k ++ (32 ∷ (written house v ++ more_pairs house ps))) ≡ w
    → bare house (mapping at true p (pair k v ps)) ≡ 123 ∷ (w ++ 125 ∷ [])
bare_pairs house at p k v ps w e =
    ap (λ z. 123 ∷ z) (ap (λ z. written house k ++ (colon_after k ++ (32 ∷ z))) (sym (append_assoc (written house v) (more_pairs house ps) (125 ∷ [])))
    ∙ (regrouped (written house k) (colon_after k) (written house v ++ more_pairs house ps) (125 ∷ []) ∙ ap (λ z. z ++ 125 ∷ []) e))

abbrev nothing_at : ℕ → Meaning
nothing_at q = record { events = []; comments = []; escapes = []; finish = q + 1 }

sequence_inline : (house : Style) {c : Ctx} {at : NodeOffsets} {p : PropsValue} {x : Node} {xs : Items} → is_block c ≡ false → is_some at.span ≡ true → FitProps p → ItemsNode house (in_flow c) x xs → InlineNode house c (sequence at true p (item x xs))
sequence_inline house {c} {at} {p} {x} {xs} k e f n =
    let end : ℕ → ℕ = λ q. q + length (91 ∷ (n.text ++ 93 ∷ [])) in
    let low : n.height ≤ tall_items (item x xs) = n.low in
    bracketed house 91 (n.text ++ 93 ∷ []) (omega arith) (omega arith) f refl (bare_first house at p x xs n.text n.is) (collection_json_back c true k n.back) (omega (arith, low)) refl
    (λ q g. subst (λ z. MeansTrees (sequence at true z (item x xs)) (collection true true q (end q) (n.mean (q + 1)))) (sym g) (sequence_meant true q (end q) e (n.meant (q + 1))))
    (λ o i j q. sequence_with_meant true p o i j q (end q) e (n.meant (q + 1)))
    (λ q. silent_collection true true q (end q) (n.mean (q + 1)) (n.silent (q + 1)))
    (λ t q r u z. collection_quotes true true q (end q) (n.mean (q + 1)) (n.quoted t (q + 1) _ u (rest_of n.text (93 ∷ []) r z)))
    (λ o i j q t r u z. collection_with_quotes p o i j true true q (end q) (n.mean (q + 1)) (n.quoted t (q + 1) _ u (rest_of n.text (93 ∷ []) r z)))

mapping_inline : (house : Style) {c : Ctx} {at : NodeOffsets} {p : PropsValue} {k v : Node} {ps : Pairs} → is_block c ≡ false → is_some at.span ≡ true → FitProps p → PairsNode house (in_flow c) k v ps → InlineNode house c (mapping at true p (pair k v ps))
mapping_inline house {c} {at} {p} {k} {v} {ps} b e f n =
    let end : ℕ → ℕ = λ q. q + length (123 ∷ (n.text ++ 125 ∷ [])) in
    let low : n.height ≤ tall_pairs (pair k v ps) = n.low in
    bracketed house 123 (n.text ++ 125 ∷ []) (omega arith) (omega arith) f refl (bare_pairs house at p k v ps n.text n.is) (collection_json_back c false b n.back) (omega (arith, low)) refl
    (λ q g. subst (λ z. MeansTrees (mapping at true z (pair k v ps)) (collection false true q (end q) (n.mean (q + 1)))) (sym g) (mapping_meant true q (end q) e (n.meant (q + 1))))
    (λ o i j q. mapping_with_meant true p o i j q (end q) e (n.meant (q + 1)))
    (λ q. silent_collection false true q (end q) (n.mean (q + 1)) (n.silent (q + 1)))
    (λ t q r u z. collection_quotes false true q (end q) (n.mean (q + 1)) (n.quoted t (q + 1) _ u (rest_of n.text (125 ∷ []) r z)))
    (λ o i j q t r u z. collection_with_quotes p o i j false true q (end q) (n.mean (q + 1)) (n.quoted t (q + 1) _ u (rest_of n.text (125 ∷ []) r z)))

no_items_inline : (house : Style) {c : Ctx} {at : NodeOffsets} {p : PropsValue} → is_block c ≡ false → is_some at.span ≡ true → FitProps p → InlineNode house c (sequence at true p no_items)
no_items_inline house {c} {at} {p} k e f =
    bracketed house 91 (93 ∷ []) (omega arith) (omega arith) f refl refl (empty_json_back c true k) (omega arith) refl
    (λ q g. subst (λ z. MeansTrees (sequence at true z no_items) (collection true true q (q + 2) (nothing_at q))) (sym g) (sequence_meant true q (q + 2) e (nothing_between refl refl)))
    (λ o i j q. sequence_with_meant true p o i j q (q + 2) e (nothing_between refl refl))
    (λ q. silent_collection true true q (q + 2) (nothing_at q) refl)
    (λ t q r u z. collection_quotes true true q (q + 2) (nothing_at q) no_quotes) (λ o i j q t r u z. collection_with_quotes p o i j true true q (q + 2) (nothing_at q) no_quotes)

no_pairs_inline : (house : Style) {c : Ctx} {at : NodeOffsets} {p : PropsValue} → is_block c ≡ false → is_some at.span ≡ true → FitProps p → InlineNode house c (mapping at true p no_pairs)
no_pairs_inline house {c} {at} {p} k e f =
    bracketed house 123 (125 ∷ []) (omega arith) (omega arith) f refl refl (empty_json_back c false k) (omega arith) refl
    (λ q g. subst (λ z. MeansTrees (mapping at true z no_pairs) (collection false true q (q + 2) (nothing_at q))) (sym g) (mapping_meant true q (q + 2) e (no_pair_between refl refl)))
    (λ o i j q. mapping_with_meant true p o i j q (q + 2) e (no_pair_between refl refl))
    (λ q. silent_collection false true q (q + 2) (nothing_at q) refl)
    (λ t q r u z. collection_quotes false true q (q + 2) (nothing_at q) no_quotes) (λ o i j q t r u z. collection_with_quotes p o i j false true q (q + 2) (nothing_at q) no_quotes)

-- Trees.

mutual
  pub flow_inline : (house : Style) {c : Ctx} {x : Node} → is_block c ≡ false → FitFlow house c x → InlineNode house c x
  flow_inline house k (flow_leaf n) = n
  flow_inline house k (flow_no_items e f) = no_items_inline house k e f
  flow_inline house k (flow_no_pairs e f) = no_pairs_inline house k e f
  flow_inline house k (flow_sequence {c = c} e f a more) = sequence_inline house k e f (items_node house (in_flow_not_block c k) (flow_inline house (in_flow_not_block c k) a) more)
  flow_inline house k (flow_mapping {c = c} e f a b more) =
      mapping_inline house k e f (pairs_node house (in_flow_not_block c k) (flow_inline house (in_flow_not_block c k) a) (flow_inline house (in_flow_not_block c k) b) more)

  items_node : (house : Style) {c : Ctx} {x : Node} {xs : Items} → is_block c ≡ false → InlineNode house c x → FitFlowItems house c xs → ItemsNode house c x xs
  items_node house k n flow_last_item = one_item house n
  items_node house k n (flow_item a more) = another_item house n (items_node house k (flow_inline house k a) more)

  pairs_node : (house : Style) {c : Ctx} {k v : Node} {ps : Pairs} → is_block c ≡ false → InlineNode house c k → InlineNode house c v → FitFlowPairs house c ps → PairsNode house c k v ps
  pairs_node house k n o flow_last_pair = one_pair house (pair_node house n o)
  pairs_node house k n o (flow_pair a b more) = another_pair house (pair_node house n o) (pairs_node house k (flow_inline house k a) (flow_inline house k b) more)
