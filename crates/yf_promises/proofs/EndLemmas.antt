-- The marks of the documents of a derivation are those after them in the text.
use Rattle.std.proofs.Common.{◌≡◌, ℕ, ◌+◌, ◌≤◌, inl, inr, true, false, List, [], ◌∷◌, ◌++◌, length, refl, sym, ap, ◌∙◌, subst, arith, append_assoc}
use Rattle.std.proofs.lemmas.Bool.{eqb-true}
use Rattle.std.specs.Str.{IsUtf8}
use Rattle.yf_chars.specs.Text.{code}
use Rattle.yf_chars.specs.Chain.{Chain}
use Rattle.yf_chars.specs.Chain.Chain.{done, step}
use Rattle.yf_chars.proofs.ChainLemmas.{chain_append}
use Rattle.yf_lines.specs.Basic.LineStart.{at_text}
use Rattle.yf_comments.specs.Comment.{CommentValue}
use Rattle.yf_comments.specs.Comments.{CommentLine}
use Rattle.yf_events.specs.declared.reading.TheConstants.{DEPTH}
use Rattle.yf_grammar.proofs.BlockOutcomes.BlockEnds.{LineOrEnd, block_ends}
use Rattle.yf_stream.specs.Stream.{Documents, PrefixPart, Prefixes, Stream, StreamRest, Suffixes, document_of, with_comments, with_document}
use Rattle.yf_stream.specs.Stream.AnyDocument.{bare_document, directive_document, explicit_document}
use Rattle.yf_stream.specs.Stream.PrefixPart.{order_mark, prefix_comment}
use Rattle.yf_stream.specs.Stream.Stream.{begins_with_document, without_document}
use Rattle.yf_stream.specs.Stream.StreamRest.{past_explicit, past_prefix, past_suffixes, past_suffixes_and_document, stream_ended}
use Rattle.yf_stream.specs.Stream.Suffixes.{last_suffix, more_suffixes}
use Rattle.yf_stream.proofs.Reader.PrefixLemmas.{prefixes_rows}
use Rattle.yf_stream.proofs.Uniqueness.StreamPath.{explicit_next, part_next, parts_next, suffixes_next}
use Rattle.yf_standard.specs.Characters.{c-byte-order-mark, x}
use Rattle.yf_standard.specs.Notation.{Form}
use Rattle.yf_standard.specs.Notation.Form.{l-any-document, l-comment, l-document-prefix, l-document-suffix, l-explicit-document, l-yaml-stream}
use Rattle.yf_standard.specs.Notation.Form.{c-flow-sequence, c-flow-mapping, ns-flow-pair, l+block-sequence, ns-l-compact-sequence, l+block-mapping, ns-l-compact-mapping}
use Rattle.yf_standard.specs.Productions.{rule}
use Rattle.yf_standard.specs.Rules.{read}
use Rattle.yf_standard.specs.Literal.{Derived, kind}
use Rattle.yf_standard.specs.Literal.Kind.{PRODUCTION, COLLECTION}
use Rattle.yf_standard.specs.Literal.Derived.{by_rule}
use Rattle.yf_standard.specs.Contents.{Making}
use Rattle.yf_standard.specs.Laws.{IsStandardStream}
use Rattle.yf_standard.proofs.Basics.{SomeOf}
use Rattle.yf_standard.proofs.BasicsMeant.{Puts}
use Rattle.yf_standard.proofs.BasicsMeant.Puts.{puts}
use Rattle.yf_standard.proofs.Closed.{closed, is_collection, not_opening}
use Rattle.yf_standard.proofs.ContentLawsHold.{zone}
use Rattle.yf_standard.proofs.Meant.{Character, Either, FormMeans, Meanings, Perhaps, Several, Then, means}
use Rattle.yf_standard.proofs.Meant.Character.{character}
use Rattle.yf_standard.proofs.Meant.Either.{left, right}
use Rattle.yf_standard.proofs.Meant.Perhaps.{given, missing}
use Rattle.yf_standard.proofs.Meant.Several.{several}
use Rattle.yf_standard.proofs.Meant.Then.{both}
use Rattle.yf_standard.proofs.Reading.{FormRead, known}
use Rattle.yf_standard.proofs.Standing.{StandsFor}
use Rattle.yf_standard.proofs.StreamsRead.{Any, SomeDocument, SomeExplicit, Suffix, bare_read, begins_within}
use Rattle.yf_standard.proofs.Zones.{Zone}
use Rattle.yf_promises.specs.Ends.{Part, begins_with_suffix, ends_of, no_parts, parts_by, parts_made}
use Rattle.yf_promises.specs.Ends.Part.{a_document, a_suffix}
use Rattle.yf_promises.proofs.Stops.{Stop, Ended, after_document, dashes_here, dots_here, end_here, stop_before}
use Rattle.yf_promises.proofs.Stops.Ended.{none_ended, one_ended}

-- what is left of a stream after its first document, and a stream
record RestEnds (t : List ℕ) (e i : ℕ) (y : List Part) : Type 0 where
  height : ℕ
  value : Documents
  derived : StreamRest t height i value
  fits : height ≤ e
  stop : Stop t i (begins_with_suffix y)
  ends : Ended t value.documents (ends_of y)

pub record StreamEnds (t : List ℕ) (e : ℕ) (y : List Part) : Type 0 where
  pub height : ℕ
  pub value : Documents
  pub derived : Stream t height value
  pub fits : height ≤ e
  pub ends : Ended t value.documents (ends_of y)

abbrev Suffixed : List ℕ → ℕ → ℕ → List Part → Type 0
Suffixed t = Puts (a_suffix ∷ []) (Suffix t)

abbrev Prefixed : List ℕ → ℕ → ℕ → List Part → Type 0
Prefixed t = Puts [] (SomeOf (Prefixes t))

abbrev AnyPart : List ℕ → ℕ → ℕ → ℕ → List Part → Type 0
AnyPart t e = Puts (a_document ∷ []) (Any t e)

abbrev ExplicitPart : List ℕ → ℕ → ℕ → ℕ → List Part → Type 0
ExplicitPart t e = Puts (a_document ∷ []) (SomeExplicit t e)

-- [211], and a round of its last star
abbrev RoundParts : List ℕ → ℕ → ℕ → ℕ → List Part → Type 0
RoundParts t e =
    Either (Then (Several (Suffixed t)) (Then (Chain (Prefixed t)) (Perhaps (AnyPart t e))))
    (Either (Character t no_parts c-byte-order-mark) (Either (Puts [] (SomeOf (CommentLine t))) (ExplicitPart t e)))

abbrev StreamParts : List ℕ → ℕ → ℕ → ℕ → List Part → Type 0
StreamParts t e = Then (Chain (Prefixed t)) (Then (Perhaps (AnyPart t e)) (Chain (RoundParts t e)))

-- suffixes and prefixes have no documents
ends_past : {t : List ℕ} {i j : ℕ} {v : List Part} → Chain (Suffixed t) i j v → (y : List Part)
    → ends_of (v ++ y) ≡ ends_of y
ends_past done y = refl
ends_past (step (puts s) c) y = ends_past c y

suffixes_from : {t : List ℕ} {i k j : ℕ} {v : List Part} → Suffix t i k → Chain (Suffixed t) k j v
    → (cs : List CommentValue) × Suffixes t i j cs
suffixes_from s done = (s.1.0, last_suffix s.0 s.1.1)
suffixes_from s (step (puts r) c) = let rest = suffixes_from r c in (s.1.0 ++ rest.0, more_suffixes s.0 s.1.1 rest.1)

prefixes_from : {t : List ℕ} {i j : ℕ} {w : List Part} → Chain (Prefixed t) i j w → (w ≡ []) × SomeOf (Prefixes t) i j
prefixes_from done = (refl, ([], done))
prefixes_from (step (puts p) c) = let rest = prefixes_from c in (rest.0, (p.0 ++ rest.1.0, chain_append p.1 rest.1.1))

round_ends : {t : List ℕ} {i j : ℕ} {v : List Part} (w x y : List Part) → Chain (Suffixed t) i j v → w ≡ []
    → ends_of ((v ++ (w ++ x)) ++ y) ≡ ends_of (x ++ y)
round_ends {v = v} w x y c e =
    ap (λ z. ends_of ((v ++ (z ++ x)) ++ y)) e ∙ ap (λ z. ends_of z) (append_assoc v x y) ∙ ends_past c (x ++ y)

mark_here : {t : List ℕ} {i k : ℕ} {y : List Part} → Character t no_parts c-byte-order-mark i k y → PrefixPart t i k [] × (y ≡ [])
unfolding c-byte-order-mark x
mark_here {t} (character {i = i} e) = (order_mark (eqb-true (code t i) 0xFEFF e), refl)

module _ {t : List ℕ} {e : ℕ} (u : IsUtf8 t) where
  any_next : {i j : ℕ} → Any t e i j → LineOrEnd t j
  any_next (inl d) = explicit_next u d.1.1.1.1.0
  any_next (inr (inl d)) = explicit_next u d.1.1.0
  any_next (inr (inr d)) = block_ends d.1.1.0.derived

  -- a document after the comment lines that a bare one begins with
  document_from : {i j : ℕ} → LineOrEnd t i → Any t e i j → (k : ℕ) × (SomeOf (Prefixes t) i k × SomeDocument t e k j)
  document_from {i} b (inl d) =
      (i, (([], done), (d.1.1.0, (_, (_, (directive_document d.1.0.1 d.1.1.1.1.0, d.1.1.1.1.1))))))
  document_from {i} b (inr (inl d)) = (i, (([], done), (d.0, (_, (_, (explicit_document d.1.1.0, d.1.1.1))))))
  document_from {i} {j} b (inr (inr d)) =
      let s = bare_read t e i j u b (begins_within u (any_next (inr (inr d)))) d in
      let r = s.1.1.1.1 in
      (s.0, (s.1.0, (r.0, (_, (_, (bare_document r.1.1.0 s.1.1.1.0, r.1.1.1))))))

  suffix_round : {i k m h : ℕ} {v w x y : List Part} → LineOrEnd t i → Several (Suffixed t) i k v
      → Chain (Prefixed t) k m w → Perhaps (AnyPart t e) m h x
      → (LineOrEnd t h → RestEnds t e h y) → RestEnds t e i ((v ++ (w ++ x)) ++ y)
  unfolding with_comments with_document
  suffix_round {w = w} {y = y} b (several (puts s) c) p missing rest =
      let f = suffixes_from s c in
      let q = prefixes_from p in
      let r = rest (parts_next u (suffixes_next u f.1) q.1.1) in
      record {
        height = r.height;
        value = with_comments (f.0 ++ q.1.0) r.value;
        derived = past_suffixes f.1 q.1.1 r.derived;
        fits = r.fits;
        stop = dots_here u b s.0 s.1.1;
        ends = subst (λ z. Ended t r.value.documents z) (sym (round_ends w [] y (step (puts s) c) q.0)) r.ends;
      }
  suffix_round {w = w} {y = y} b (several (puts s) c) p (given (puts a)) rest =
      let f = suffixes_from s c in
      let q = prefixes_from p in
      let g = document_from (parts_next u (suffixes_next u f.1) q.1.1) a in
      let d = g.1.1 in
      let r = rest (any_next a) in
      let m = d.1.1.1.1 in
      let o = r.fits in
      record {
        height = _;
        value = with_document (f.0 ++ ((q.1.0 ++ g.1.0.0) ++ d.1.1.0)) d.1.0 r.value;
        derived = past_suffixes_and_document f.1 (chain_append q.1.1 g.1.0.1) d.1.1.1.0 r.derived;
        fits = omega (arith, m, o);
        stop = dots_here u b s.0 s.1.1;
        ends =
            subst (λ z. Ended t (d.1.0 ∷ r.value.documents) z)
            (sym (round_ends w (a_document ∷ []) y (step (puts s) c) q.0))
            (one_ended (after_document u d.1.1.1.0 r.stop) r.ends);
      }

  part_round : {i k : ℕ} {cs : List CommentValue} {y : List Part} → PrefixPart t i k cs → RestEnds t e k y
      → RestEnds t e i y
  unfolding with_comments
  part_round {cs = cs} p r = record {
    height = r.height;
    value = with_comments cs r.value;
    derived = past_prefix p r.derived;
    fits = r.fits;
    stop = stop_before (prefixes_rows (step p done)) r.stop;
    ends = r.ends;
  }

  explicit_round : {i k : ℕ} {y : List Part} → SomeExplicit t e i k → RestEnds t e k y → RestEnds t e i (a_document ∷ y)
  unfolding with_document
  explicit_round {i} n r =
      let m = n.1.1.1 in
      let o = r.fits in
      record {
        height = _;
        value = with_document n.1.0.comments (document_of i true [] n.1.0) r.value;
        derived = past_explicit n.1.1.0 r.derived;
        fits = omega (arith, m, o);
        stop = dashes_here u n.1.1.0;
        ends = one_ended (after_document u (explicit_document n.1.1.0) r.stop) r.ends;
      }

  rest_ends : {i z : ℕ} {y : List Part} → LineOrEnd t i → z ≡ length t → Chain (RoundParts t e) i z y → RestEnds t e i y
  rest_ends b q done = subst (λ k. RestEnds t e k []) (sym q)
      (record {
        height = 0;
        value = _;
        derived = stream_ended;
        fits = omega arith;
        stop = end_here u refl;
        ends = none_ended;
      })
  rest_ends b q (step (left (both s (both p d))) c) = suffix_round b s p d (λ n. rest_ends n q c)
  rest_ends {i} b q (step {y = y} (right (left m)) c) =
      let o = mark_here m in
      subst (λ z. RestEnds t e i (z ++ y)) (sym o.1) (part_round o.0 (rest_ends (part_next u b o.0) q c))
  rest_ends b q (step (right (right (left (puts l)))) c) =
      part_round (prefix_comment l.1) (rest_ends (part_next u b (prefix_comment l.1)) q c)
  rest_ends b q (step (right (right (right (puts n)))) c) = explicit_round n (rest_ends (explicit_next u n.1.1.0) q c)

  stream_ends : {z : ℕ} {y : List Part} → z ≡ length t → StreamParts t e 0 z y → StreamEnds t e y
  unfolding with_comments with_document
  stream_ends {z} q (both p (both d c)) = go (prefixes_from p) d c where
    go : {i j : ℕ} {v w x : List Part} → (v ≡ []) × SomeOf (Prefixes t) 0 i → Perhaps (AnyPart t e) i j w
        → Chain (RoundParts t e) j z x → StreamEnds t e (v ++ (w ++ x))
    go {x = x} p missing c =
        let r = rest_ends (parts_next u (inl at_text) p.1.1) q c in
        record {
          height = r.height;
          value = with_comments p.1.0 r.value;
          derived = without_document p.1.1 r.derived;
          fits = r.fits;
          ends = subst (λ z. Ended t r.value.documents (ends_of (z ++ x))) (sym p.0) r.ends;
        }
    go {x = x} p (given (puts a)) c =
        let g = document_from (parts_next u (inl at_text) p.1.1) a in
        let d = g.1.1 in
        let r = rest_ends (any_next a) q c in
        let m = d.1.1.1.1 in
        let o = r.fits in
        record {
          height = _;
          value = with_document ((p.1.0 ++ g.1.0.0) ++ d.1.1.0) d.1.0 r.value;
          derived = begins_with_document (chain_append p.1.1 g.1.0.1) d.1.1.1.0 r.derived;
          fits = omega (arith, m, o);
          ends = subst (λ z. Ended t (d.1.0 ∷ r.value.documents) (ends_of (z ++ (a_document ∷ x)))) (sym p.0)
              (one_ended (after_document u d.1.1.1.0 r.stop) r.ends);
        }

-- what the productions of streams have as parts
unfoldable Parts : (t : List ℕ) → ℕ → Form → ℕ → ℕ → List Part → Type 0
Parts t e l-comment i j y = Puts [] (SomeOf (CommentLine t)) i j y
Parts t e l-document-prefix i j y = Prefixed t i j y
Parts t e l-document-suffix i j y = Suffixed t i j y
Parts t e l-explicit-document i j y = ExplicitPart t e i j y
Parts t e l-any-document i j y = AnyPart t e i j y
Parts t e l-yaml-stream i j y = i ≡ 0 → j ≡ length t → StreamEnds t e y
Parts t e f i j y = Unit {0}

abbrev making_parts : (t : List ℕ) → Making (read t) t Part
making_parts t e f i j d x = parts_made f x

module _ (t : List ℕ) (z : Zone t false) where
  old : {e : ℕ} (f : Form) {i j : ℕ} → z.low ≤ i → j ≤ z.high → kind f ≡ PRODUCTION
      → Derived (read t) t e (rule f) i j → FormRead t (read t) (StandsFor t z.low false) e f i j
  old f l h q d = known (closed t false z) l h (by_rule q d)

  by_parts : (e : ℕ) (f : Form) (i j : ℕ) (y : List Part) → kind f ≡ PRODUCTION → z.low ≤ i → j ≤ z.high
      → (d : Derived (read t) t e (rule f) i j)
      → FormMeans t (read t) no_parts (Parts t) e (rule f) i j y → Parts t e f i j (parts_made f y)
  unfolding Parts StandsFor rule kind parts_made
  by_parts e l-comment i j y q l h d m = puts (old l-comment l h q d)
  by_parts e l-document-prefix i j y q l h d m = puts (old l-document-prefix l h q d)
  by_parts e l-document-suffix i j y q l h d m = puts (old l-document-suffix l h q d)
  by_parts e l-explicit-document i j y q l h d m = puts (old l-explicit-document l h q d)
  by_parts e l-any-document i j y q l h d m = puts (old l-any-document l h q d)
  by_parts e l-yaml-stream i j y q l h d m =
      λ o p. stream_ends z.utf p (subst (λ k. FormMeans t (read t) no_parts (Parts t) e (rule l-yaml-stream) k j y) o m)
  by_parts e f i j y q l h d m = tt

  open_parts : (e : ℕ) (f : Form) (i j : ℕ) (y : List Part) → kind f ≡ COLLECTION → Parts t e f i j y
  unfolding Parts kind is_collection
  open_parts e (c-flow-sequence n c) i j y q = tt
  open_parts e (c-flow-mapping n c) i j y q = tt
  open_parts e (ns-flow-pair n c) i j y q = tt
  open_parts e (l+block-sequence n) i j y q = tt
  open_parts e (ns-l-compact-sequence n) i j y q = tt
  open_parts e (l+block-mapping n) i j y q = tt
  open_parts e (ns-l-compact-mapping n) i j y q = tt
  open_parts e f i j y q = not_opening refl q

  all_parts : Meanings t (read t) z.low z.high no_parts (making_parts t) (Parts t)
  all_parts = record {
    by = λ e f i j y q l h d s m. by_parts e f i j y q l h d m;
    by_open = λ r e f i j y q w l h d m. open_parts e f i j (making_parts t r f i j d y) q;
  }

pub parts_end : (t : List ℕ) → IsUtf8 t → (d : IsStandardStream t) → StreamEnds t DEPTH (parts_by d)
unfolding Parts
parts_end t u d = means {f = l-yaml-stream} (all_parts t (zone t u (length t))) (omega arith) (omega arith) d refl refl
