-- The reader reaches a flow node without properties as a leaf: its last halt is no sooner than each offset after the
-- node at which all nodes may end.
use Rattle.std.proofs.Common.{◌≡◌, ℕ, ℤ, pos, ◌+ℤ◌, ◌<◌, ◌≤◌, Bool, true, false, inl, inr, ⊎_elim, List, Option, refl, sym, ap, ◌∙◌, subst, arith, true≢false}
use Rattle.std.proofs.lemmas.Bool.{cases_lt}
use Rattle.std.specs.Str.{IsUtf8}
use Rattle.yf_chars.specs.declared.context.Ctx.TheVariants.{FlowOut}
use Rattle.yf_chars.specs.Text.{code}
use Rattle.yf_chars.specs.Chain.{Chosen}
use Rattle.yf_lines.specs.Basic.{Clear}
use Rattle.yf_comments.specs.Comment.{CommentValue}
use Rattle.yf_grammar.specs.Productions.Meaning.{Meaning, noting}
use Rattle.yf_grammar.specs.FlowReader.Parser.{ParsedNode, found, Parses, ANode, begins_plain}
use Rattle.yf_grammar.specs.BlockReader.BlockParser.{Ahead, headed, MayLeaf, Leaf}
use Rattle.yf_grammar.specs.BlockReader.Halts.{MayEnd, PlainPart, plain_part, Halts}
use Rattle.yf_grammar.specs.BlockReader.Halts.Halts.{halts_scalar, halts_scalar_before, halts_plain, halts_plain_missed, halts_content, halts_content_unended, halts_content_missed, halts_refused}
use Rattle.yf_grammar.proofs.BlockOutcomes.BlockClaims.{IsFound}
use Rattle.yf_grammar.proofs.BlockOutcomes.BlockItems.{longest_of}
use Rattle.yf_grammar.proofs.BlockContent.BlockScalars.{node_no_scalar}
use Rattle.yf_grammar.proofs.BlockContent.FlowLeaves.{BareNode, bare_alias, bare_plain, bare_content, bare_node, plain_begins, same_found, leaf_same, content_outcome}
use Rattle.yf_grammar.proofs.FlowReader.FlowStarts.{flow_starts}
use Rattle.yf_grammar.proofs.FlowReader.Longest.{Longest}
use Rattle.yf_grammar.proofs.Ends.NodeExits.{alias_begins, alias_no_plain, plain_no_content, node_alias, none_found}
use Rattle.yf_grammar.proofs.BlockOutcomes.OutcomeEnds.{with_plain_is}
use Rattle.yf_grammar.proofs.FlowStack.AwaitEntries.{found_is}

-- a node that is found later reaches the offset, and so does a node found there with that meaning
pub reached_by : {o : Option ParsedNode} {k h j : ℕ} {y x : Meaning} → IsFound o k h y → j ≤ k → (k ≡ j → x ≡ y) → Longest o j x
reached_by {o} {k} {h} {j} {y} {x} f l e = longest_of (record { end = k; height = h; json = false; meaning = y }) (f.is ∙ found_is k h false y)
    (⊎_elim (λ (m : j < k). inl m) (λ (m : k ≤ j). let same : j ≡ k = omega arith in inr (same, e (sym same))) (cases_lt j k))

module _ {t : List ℕ} (u : IsUtf8 t) where
  part_of : {n : ℤ} {h p l j : ℕ} {ws : List ℕ} {x : Meaning} {ds : List CommentValue} → BareNode t n h p l x → begins_plain (code t p) ≡ true → Clear t p l → MayEnd t ws l j ds
      → PlainPart t n ws p j (noting x ds)
  part_of {p = p} (bare_alias a) b c m = absurd (alias_no_plain (code t p) (alias_begins a) b)
  part_of (bare_plain y) b c m = plain_part (record { text = y; clear = c }) m
  part_of {p = p} (bare_content d) b c m = absurd (plain_no_content (code t p) b (flow_starts d refl).content)

  other_outcome : {n : ℤ} {e h p l j : ℕ} {ws : List ℕ} {x : Meaning} {ds : List CommentValue} {o : Option ParsedNode} → BareNode t n h p l x → begins_plain (code t p) ≡ false → Clear t p l
      → h ≤ e → MayEnd t ws l j ds → Parses t e (ANode n FlowOut p) o → (b : Bool) × (o ≡ found l h b x)
  other_outcome (bare_alias a) b c y m r = (false, node_alias a r)
  other_outcome (bare_plain q) b c y m r = absurd (true≢false (sym (plain_begins q) ∙ b))
  other_outcome (bare_content d) b c y m r = (true, content_outcome u d c y m.line r)

  pub bare_leaf_reached : {n : ℤ} {e h p l j : ℕ} {ws : List ℕ} {a : Ahead} {x : Meaning} {ds : List CommentValue} {o : Option ParsedNode} → BareNode t (n +ℤ pos 1) h p l x → Clear t p l
      → h ≤ e → MayEnd t ws l j ds → MayLeaf t a p → Halts t e ws (Leaf n a p) o → Longest o j (headed a (noting x ds))
  bare_leaf_reached {n} b c m d y (halts_scalar {j = k} {x = z} g) = absurd ((node_no_scalar n refl (bare_node b).1).none k z g.derived.scalar)
  bare_leaf_reached {n} b c m d y (halts_scalar_before {j = k} {x = z} g s) = absurd ((node_no_scalar n refl (bare_node b).1).none k z g.derived)
  bare_leaf_reached {n} {p = p} {j = j} {ws = ws} {a = a} {x = x} {ds = ds} b c m d y (halts_plain {j = k} {x = z} q w i g) =
      let part = part_of b i c d in
      reached_by (record { is = with_plain_is a k z }) (g.longest j (noting x ds) part)
      (λ e. ap (headed a) (g.only (noting x ds) (subst (λ v. PlainPart t (n +ℤ pos 1) ws p v (noting x ds)) (sym e) part)))
  bare_leaf_reached {j = j} {x = x} {ds = ds} b c m d y (halts_plain_missed q w i s) = absurd (s.none j (noting x ds) (part_of b i c d))
  bare_leaf_reached {l = l} {j = j} {ws = ws} {a = a} {x = x} {ds = ds} b c m d y (halts_content {j = k} {ds = es} q w i r g) =
      let v = other_outcome b i c m d r in
      let s = same_found v.0 v.1 in
      let g' : Chosen (MayEnd t ws l) k es = subst (λ z. Chosen (MayEnd t ws z) k es) s.end g in
      reached_by (leaf_same a s (refl, refl)) (g'.longest j ds d) (λ e. ap (λ z. headed a (noting x z)) (g'.only ds (subst (λ z. MayEnd t ws l z ds) (sym e) d)))
  bare_leaf_reached {j = j} {ws = ws} {ds = ds} b c m d y (halts_content_unended q w i r s) =
      let v = other_outcome b i c m d r in
      let e = same_found v.0 v.1 in
      absurd (s.none j ds (subst (λ z. MayEnd t ws z j ds) (sym e.end) d))
  bare_leaf_reached {h = h} {l = l} {x = x} b c m d y (halts_content_missed q w i r) = let v = other_outcome b i c m d r in absurd (none_found l h v.0 x v.1)
  bare_leaf_reached b c m d y (halts_refused q w) = absurd (w y)
