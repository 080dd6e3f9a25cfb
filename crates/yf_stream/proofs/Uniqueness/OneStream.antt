-- A text has one derivation as a stream within the limit of open collections, apart from which part takes its comment
-- lines: all derivations are one stream of documents and comments.
use Rattle.std.proofs.Common.{◌≡◌, ℕ, ◌+◌, ◌-ℤ◌, ℤ, pos, ◌≤◌, Bool, true, false, List, [], ◌++◌, Option, Some, None, refl, sym, ap, ◌∙◌, subst, arith, true≢false, append-nil}
use Rattle.std.specs.Str.{IsUtf8}
use Rattle.yf_chars.specs.declared.context.Ctx.{Ctx}
use Rattle.yf_chars.specs.declared.context.Ctx.TheVariants.{BlockIn}
use Rattle.yf_chars.specs.Text.{code, no_char}
use Rattle.yf_chars.specs.Class.{is_ns_char, is_nb_char, is_printable, is_between, is_break_char, is_white}
use Rattle.yf_chars.specs.Chain.{Stuck}
use Rattle.yf_chars.specs.Chain.Chain.{done}
use Rattle.yf_chars.proofs.ChainLemmas.{chain_append, many_unique, stuck_unique}
use Rattle.yf_comments.specs.Comment.{CommentValue}
use Rattle.yf_comments.specs.Comments.{LineEnd, Row}
use Rattle.yf_comments.proofs.RowLemmas.{end_code, row_functional, separate_whites}
use Rattle.yf_comments.proofs.LineEndLemmas.{line_end_rows}
use Rattle.yf_plain.proofs.PlainLemmas.{ns_not_white}
use Rattle.yf_grammar.specs.Productions.Meaning.{Meaning, empty_node, noting}
use Rattle.yf_grammar.specs.FlowReader.Parser.{ParsedNode, found}
use Rattle.yf_grammar.specs.BlockReader.BlockParser.{LinesEnd, text_ends, mark_is_at, marker_is_at, LineText, Nothing, Awaited, Below, Whole, alone}
use Rattle.yf_grammar.specs.BlockReader.BlockParser as BlockParser
use Rattle.yf_grammar.proofs.BlockOutcomes.BlockClaims.{IsFound, line_still}
use Rattle.yf_grammar.proofs.Ends.NodeExits.{none_found}
use Rattle.yf_grammar.proofs.Documents.DocumentNodes.{DocumentFound, takes_lines, leaves_lines, document_node}
use Rattle.yf_grammar.proofs.BlockOutcomes.BlockExtended.{by_scalar}
use Rattle.yf_grammar.proofs.Ends.Irrefutable.{Irrefutable, sure, then}
use Rattle.yf_grammar.proofs.BlockReader.WholeAnswered.{whole_answered}
use Rattle.yf_stream.specs.Stream.{ContentAt, Documents, Stream, document_of, with_comments, with_document}
use Rattle.yf_stream.specs.Stream.ContentAt.{content_at}
use Rattle.yf_stream.proofs.Uniqueness.OneDirective.{directives_one}
use Rattle.yf_stream.proofs.Uniqueness.Stable.{stable_nat, stable_meaning}
use Rattle.yf_stream.proofs.Uniqueness.StreamPath.{Settled, NodeTo, ExplicitTo, node_to, nothing_to, Path, path_ends, path_mark, path_suffix, path_explicit, path_directives, path_bare, settled_one, stream_from}
use Rattle.yf_grammar.proofs.BlockReader.BlockSound.{alone_nothing}
use Rattle.yf_grammar.proofs.WrittenTexts.LeafBack.{noting_nothing}

-- parts of an outcome
abbrev end_of : Option ParsedNode → ℕ
end_of None = 0
end_of (Some f) = f.end

abbrev meaning_of : ℕ → Option ParsedNode → Meaning
meaning_of i None = empty_node i
meaning_of i (Some f) = f.meaning

found_one : {o : Option ParsedNode} {j k h g : ℕ} {x y : Meaning} → IsFound o j h x → IsFound o k g y → (j ≡ k) × (x ≡ y)
unfolding found
found_one a b = (ap end_of (sym a.is ∙ b.is), ap (meaning_of 0) (sym a.is ∙ b.is))

not_none : {o : Option ParsedNode} {j h : ℕ} {x : Meaning} → IsFound o j h x → o ≡ None → ⊥
not_none {j = j} {h = h} {x = x} a e = none_found j h false x (sym e ∙ a.is)

-- two nodes with one start have one end and one meaning
pub record Same (l m : ℕ) (x y : Meaning) : Type 0 where
  pub ends : l ≡ m
  pub meaning : x ≡ y

-- the outcome of a reader for a node: all up to the offset, or the node without the comment lines after it
pub data Known (t : List ℕ) (h l : ℕ) (x : Meaning) (o : Option ParsedNode) : Type 0 where
  all_of_it : IsFound o l h x → Known t h l x o
  but_lines : {j : ℕ} {y : Meaning} {es : List CommentValue} → IsFound o j h y → Settled t j l es → x ≡ noting y es → Known t h l x o

module _ {t : List ℕ} where
  -- comment lines from an offset at which none begins
  pub settled_still : {j l : ℕ} {es : List CommentValue} → Stuck (Row t j) → Settled t j l es → (l ≡ j) × (es ≡ [])
  settled_still {j} s d = let r = settled_one d (record { rows = done {i = j}; last = s }) in (r.0, r.1)

  known_one : {h g l m : ℕ} {x y : Meaning} {o : Option ParsedNode} → Stuck (Row t l) → Stuck (Row t m) → Known t h l x o → Known t g m y o → Same l m x y
  known_one s r (all_of_it e) (all_of_it f) = let q = found_one e f in record { ends = q.0; meaning = q.1 }
  known_one {l = l} {m = m} {x = x} {y = y} s r (all_of_it e) (but_lines {j = j} {y = z} {es = es} f d n) =
      let q = found_one e f in
      let v = settled_still (subst (λ w. Stuck (Row t w)) q.0 s) d in
      record { ends = q.0 ∙ sym v.0; meaning = q.1 ∙ sym (noting_nothing z) ∙ ap (noting z) (sym v.1) ∙ sym n }
  known_one {l = l} {m = m} {x = x} {y = y} s r (but_lines {j = j} {y = z} {es = es} e d n) (all_of_it f) =
      let q = found_one e f in
      let v = settled_still (subst (λ w. Stuck (Row t w)) (sym q.0) r) d in
      record { ends = v.0 ∙ q.0; meaning = n ∙ ap (noting z) v.1 ∙ noting_nothing z ∙ q.1 }
  known_one {m = m} s r (but_lines {j = j} {y = a} {es = es} e d n) (but_lines {j = k} {y = b} {es = fs} f c p) =
      let q = found_one e f in
      let v = settled_one d (subst (λ w. Settled t w m fs) (sym q.0) c) in
      record { ends = v.0; meaning = n ∙ ap (λ w. noting w es) q.1 ∙ ap (noting b) v.1 ∙ sym p }

  -- no line of a node follows comment lines after which `LinesEnd` holds
  pub line_stuck : {q k m p j l : ℕ} {cs es : List CommentValue} {ds : List CommentValue} → LineEnd t q j cs → Settled t j l es → LinesEnd t l → LineEnd t q k ds → LineText t k m p → ⊥
  line_stuck {l = l} d s e f w =
      let r = stuck_unique row_functional (chain_append (line_end_rows d) s.rows) s.last (line_end_rows f) (line_still w) in
      w.goes_on (subst (λ z. LinesEnd t z) r.0 e)

  below_none : {e q j l : ℕ} {n : ℤ} {c : Ctx} {cs es : List CommentValue} {o : Option ParsedNode} → Whole t e (Below n c Nothing q) o → LineEnd t q j cs → Settled t j l es → LinesEnd t l → o ≡ None
  below_none (BlockParser.below_alone {k = k} {ds = ds} d w) f s z = alone_nothing k ds
  below_none (BlockParser.below_node d w b g r) f s z = absurd (line_stuck f s z d.derived w)
  below_none (BlockParser.below_missed d) f s z = refl

  whole_none : {e q j l : ℕ} {n : ℤ} {c : Ctx} {cs es : List CommentValue} {o : Option ParsedNode} → Whole t e (Awaited false n c Nothing q) o → LineEnd t q j cs → Settled t j l es → LinesEnd t l
      → o ≡ None
  whole_none (BlockParser.awaited_below d r) f s z = below_none r f s z
  whole_none {j = j} {cs = cs} (BlockParser.awaited_inline d m l w g r) f s z = absurd (d.none j cs f)
  whole_none (BlockParser.awaited_missed d w) f s z = refl

  pub known_some : {h l : ℕ} {x : Meaning} {o : Option ParsedNode} → Known t h l x o → o ≡ None → ⊥
  known_some (all_of_it e) f = not_none e f
  known_some (but_lines e d n) f = not_none e f

  -- the characters at an offset
  content_first : {k p : ℕ} → ContentAt t k p → is_white (code t k) ≡ false → is_ns_char (code t k) ≡ true
  content_first {k} (content_at {k = p} s n h) w =
      let same = (many_unique t is_white (done {i = k}) w (separate_whites s).1 (ns_not_white (code t p) n)).0 in
      ap (λ z. is_ns_char (code t z)) same ∙ n

  content_one : {k p q : ℕ} → ContentAt t k p → ContentAt t k q → p ≡ q
  content_one (content_at {k = p} s n h) (content_at {k = q} r m g) =
      (many_unique t is_white (separate_whites s).1 (ns_not_white (code t p) n) (separate_whites r).1 (ns_not_white (code t q) m)).0

  pub no_content : {k p : ℕ} (c : ℕ) → code t k ≡ c → is_white c ≡ false → is_ns_char c ≡ false → ContentAt t k p → ⊥
  no_content c e w n d = true≢false (sym (content_first d (ap is_white e ∙ w)) ∙ ap is_ns_char e ∙ n)

  pub lines_end : {b : Bool} {h k : ℕ} {x : Documents} → Path t b h k x → b ≡ false → LinesEnd t k
  lines_end (path_ends e) f = text_ends e
  lines_end (path_mark e s p) f = mark_is_at e
  lines_end (path_suffix m c s p ln) f = marker_is_at m
  lines_end (path_explicit m c n p) f = marker_is_at m
  lines_end (path_directives q c d n p m) f = absurd (true≢false (sym q ∙ f))
  lines_end (path_bare q m c d n p) f = absurd (true≢false (sym q ∙ f))

end_facts : (is_white no_char ≡ false) × (is_ns_char no_char ≡ false)
unfolding is_ns_char is_nb_char is_printable is_between is_break_char is_white
end_facts = (refl, refl)

pub mark_facts : (is_white 0xFEFF ≡ false) × (is_ns_char 0xFEFF ≡ false)
unfolding is_ns_char is_nb_char is_printable is_between is_break_char is_white
mark_facts = (refl, refl)

solid : {l m : ℕ} {x y : Meaning} → Irrefutable (Same l m x y) → Same l m x y
solid {l} {m} {x} {y} s = record {
  ends = stable_nat.same l m (then s (λ r. sure r.ends));
  meaning = stable_meaning.same x y (then s (λ r. sure r.meaning));
}

module _ {t : List ℕ} (u : IsUtf8 t) {e : ℕ} where
  pub known_of : {h p l : ℕ} {x : Meaning} {o : Option ParsedNode} → NodeTo t h p l x → LinesEnd t l → h ≤ e → Whole t e (Awaited false (pos 0 -ℤ pos 1) BlockIn Nothing p) o → Known t h l x o
  known_of {h} {l = l} {x} {o} n z w r = go (by_scalar n.node.derived) (document_node u n.node.derived w n.node.clear n.settled.rows n.settled.last z r) where
    go : (b : Bool) → DocumentFound h n.end l n.comments n.meaning o b → Known t h l x o
    go false (takes_lines q) = all_of_it (record { is = q ∙ ap (found l h false) (sym n.is) })
    go true (leaves_lines q) = but_lines (record { is = q }) n.settled n.is

  pub node_one : {h g p l m : ℕ} {x y : Meaning} → NodeTo t h p l x → LinesEnd t l → h ≤ e → NodeTo t g p m y → LinesEnd t m → g ≤ e → Same l m x y
  node_one {p = p} a z v b w r = solid (then (whole_answered u e (pos 0 -ℤ pos 1) BlockIn Nothing p)
      (λ o. sure (known_one a.settled.last b.settled.last (known_of a z v o.read) (known_of b w r o.read))))

  node_not_nothing : {h p j l m : ℕ} {x : Meaning} {cs es : List CommentValue} → NodeTo t h p l x → LinesEnd t l → h ≤ e → LineEnd t p j cs → Settled t j m es → LinesEnd t m → ⊥
  node_not_nothing {p = p} a z v d s w = (whole_answered u e (pos 0 -ℤ pos 1) BlockIn Nothing p).held
      (λ o. known_some (known_of a z v o.read) (whole_none o.read d s w))

  explicit_one : {h g i l m : ℕ} {x y : Meaning} → ExplicitTo t h i l x → LinesEnd t l → h ≤ e → ExplicitTo t g i m y → LinesEnd t m → g ≤ e → Same l m x y
  explicit_one (node_to a) z v (node_to b) w r = node_one a z v b w r
  explicit_one (node_to a) z v (nothing_to d s) w r = absurd (node_not_nothing a z v d s w)
  explicit_one (nothing_to d s) z v (node_to b) w r = absurd (node_not_nothing b w r d s z)
  explicit_one {i = i} (nothing_to d s) z v (nothing_to f q) w r =
      let same = stuck_unique row_functional (chain_append (line_end_rows d) s.rows) s.last (chain_append (line_end_rows f) q.rows) q.last in
      record { ends = same.0; meaning = ap (noting (empty_node (i + 3))) same.1 }

  path_one : {b : Bool} {h g k : ℕ} {x y : Documents} → Path t b h k x → Path t b g k y → h ≤ e → g ≤ e → x ≡ y
  path_one (path_ends f) (path_ends z) v w = refl
  path_one {b} (path_mark {es = es} {x = x} c s p) (path_mark {h = g} {es = fs} {x = y} f r q) v w =
      let a = settled_one s r in
      ap (λ i. with_comments i x) a.1 ∙ ap (with_comments fs) (path_one p (subst (λ i. Path t b g i y) (sym a.0) q) v w)
  path_one (path_suffix {es = es} {x = x} n c s p ln) (path_suffix {h = g} {es = fs} {x = y} m f r q lo) v w =
      let a = settled_one s r in
      ap (λ i. with_comments i x) a.1 ∙ ap (with_comments fs) (path_one p (subst (λ i. Path t true g i y) (sym a.0) q) v w)
  path_one {k = k} (path_explicit {h = h} {g = g} {x = x} {rest = rest} m c n p) (path_explicit {h = i} {g = j} {x = y} {rest = other} r f o q) v w =
      let a = explicit_one n (lines_end p refl) (omega arith) o (lines_end q refl) (omega arith) in
      ap (λ z. with_document z.comments (document_of k true [] z) rest) a.meaning
      ∙ ap (with_document y.comments (document_of k true [] y)) (path_one p (subst (λ z. Path t false j z other) (sym a.ends) q) (omega arith) (omega arith))
  path_one (path_directives {h = h} {g = g} {p = k} {ds = ds} {cs = cs} {x = x} {rest = rest} z c d n p m0)
      (path_directives {h = i} {g = j} {p = l} {l = m} {ds = es} {cs = fs} {x = y} {rest = other} r f s o q m1) v w =
      let a = directives_one u d s in
      let o' : ExplicitTo t i k m y = subst (λ z. ExplicitTo t i z m y) (sym a.0) o in
      let b = explicit_one n (lines_end p refl) (omega arith) o' (lines_end q refl) (omega arith) in
      ap (λ z. with_document (cs ++ x.comments) (document_of z true ds x) rest) a.0
      ∙ ap (λ z. with_document (cs ++ x.comments) (document_of l true z x) rest) a.1
      ∙ ap (λ z. with_document (z ++ x.comments) (document_of l true es x) rest) a.2
      ∙ ap (λ z. with_document (fs ++ z.comments) (document_of l true es z) rest) b.meaning
      ∙ ap (with_document (fs ++ y.comments) (document_of l true es y)) (path_one p (subst (λ z. Path t false j z other) (sym b.ends) q) (omega arith) (omega arith))
  path_one (path_bare {h = h} {g = g} {p = k} {x = x} {rest = rest} z m c d n p) (path_bare {h = i} {g = j} {p = l} {x = y} {rest = other} r s f o u' q) v w =
      let a = content_one d o in
      let b = node_one n (lines_end p refl) (omega arith) u' (lines_end q refl) (omega arith) in
      ap (λ z. with_document x.comments (document_of z false [] x) rest) a
      ∙ ap (λ z. with_document z.comments (document_of l false [] z) rest) b.meaning
      ∙ ap (with_document y.comments (document_of l false [] y)) (path_one p (subst (λ z. Path t false j z other) (sym b.ends) q) (omega arith) (omega arith))
  path_one {k = k} (path_ends f) (path_mark g s1 p1) v w = let c = end_code t f in absurd (omega arith)
  path_one {k = k} (path_ends f) (path_suffix m1 g s1 p1 ln) v w = let c = end_code t f in absurd (omega arith)
  path_one {k = k} (path_ends f) (path_explicit m1 g n1 p1) v w = let c = end_code t f in absurd (omega arith)
  path_one {k = k} (path_ends f) (path_directives z1 g d1 n1 p1 m0) v w = let c = end_code t f in absurd (omega arith)
  path_one {k = k} (path_mark f s p) (path_ends g) v w = let c = end_code t g in absurd (omega arith)
  path_one {k = k} (path_mark f s p) (path_suffix m1 g s1 p1 ln) v w = absurd (omega arith)
  path_one {k = k} (path_mark f s p) (path_explicit m1 g n1 p1) v w = absurd (omega arith)
  path_one {k = k} (path_mark f s p) (path_directives z1 g d1 n1 p1 m0) v w = absurd (omega arith)
  path_one {k = k} (path_suffix m f s p ln) (path_ends g) v w = let c = end_code t g in absurd (omega arith)
  path_one {k = k} (path_suffix m f s p ln) (path_mark g s1 p1) v w = absurd (omega arith)
  path_one {k = k} (path_suffix m f s p ln) (path_explicit m1 g n1 p1) v w = absurd (omega arith)
  path_one {k = k} (path_suffix m f s p ln) (path_directives z1 g d1 n1 p1 m0) v w = absurd (omega arith)
  path_one {k = k} (path_explicit m f n p) (path_ends g) v w = let c = end_code t g in absurd (omega arith)
  path_one {k = k} (path_explicit m f n p) (path_mark g s1 p1) v w = absurd (omega arith)
  path_one {k = k} (path_explicit m f n p) (path_suffix m1 g s1 p1 ln) v w = absurd (omega arith)
  path_one {k = k} (path_explicit m f n p) (path_directives z1 g d1 n1 p1 m0) v w = absurd (omega arith)
  path_one {k = k} (path_directives z f d n p m0) (path_ends g) v w = let c = end_code t g in absurd (omega arith)
  path_one {k = k} (path_directives z f d n p m0) (path_mark g s1 p1) v w = absurd (omega arith)
  path_one {k = k} (path_directives z f d n p m0) (path_suffix m1 g s1 p1 ln) v w = absurd (omega arith)
  path_one {k = k} (path_directives z f d n p m0) (path_explicit m1 g n1 p1) v w = absurd (omega arith)
  path_one {k = k} (path_ends f) (path_bare z2 m2 c2 d2 n2 p2) v w = absurd (no_content no_char (end_code t f) end_facts.0 end_facts.1 d2)
  path_one {k = k} (path_bare z2 m2 c2 d2 n2 p2) (path_ends f) v w = absurd (no_content no_char (end_code t f) end_facts.0 end_facts.1 d2)
  path_one {k = k} (path_mark f s p) (path_bare z2 m2 c2 d2 n2 p2) v w = absurd (no_content 0xFEFF f mark_facts.0 mark_facts.1 d2)
  path_one {k = k} (path_bare z2 m2 c2 d2 n2 p2) (path_mark f s p) v w = absurd (no_content 0xFEFF f mark_facts.0 mark_facts.1 d2)
  path_one {k = k} (path_suffix m f s p ln) (path_bare z2 m2 c2 d2 n2 p2) v w = absurd (m2 m)
  path_one {k = k} (path_bare z2 m2 c2 d2 n2 p2) (path_suffix m f s p ln) v w = absurd (m2 m)
  path_one {k = k} (path_explicit m f n p) (path_bare z2 m2 c2 d2 n2 p2) v w = absurd (m2 m)
  path_one {k = k} (path_bare z2 m2 c2 d2 n2 p2) (path_explicit m f n p) v w = absurd (m2 m)
  path_one {k = k} (path_directives z f d n p m0) (path_bare z2 m2 c2 d2 n2 p2) v w = absurd (c2 f)
  path_one {k = k} (path_bare z2 m2 c2 d2 n2 p2) (path_directives z f d n p m0) v w = absurd (c2 f)

-- two derivations of a text within a limit are one stream
pub one_stream : {t : List ℕ} {e h g : ℕ} {x y : Documents} → IsUtf8 t → Stream t h x → h ≤ e → Stream t g y → g ≤ e → y ≡ x
one_stream {t} {h = h} {g = g} u d v f w =
    let a = stream_from u d in
    let b = stream_from u f in
    let s = settled_one b.settled a.settled in
    b.is ∙ ap (λ z. with_comments z b.documents) s.1
    ∙ ap (with_comments a.comments) (path_one u b.path (subst (λ z. Path t true h z a.documents) (sym s.0) a.path) w v) ∙ sym a.is
