-- After a document, or after the `---` of one, the paths of the streams go on from the reader's offset. If the reader
-- of a document refuses, no stream is derived within the limit of open collections.
use Rattle.std.proofs.Common.{◌≡◌, ◌≢◌, ℕ, max, ◌+◌, ◌-ℤ◌, pos, ◌≤◌, Bool, false, List, [], ◌∷◌, ◌++◌, length, Some, refl, sym, ap, append-nil, ◌∙◌, subst, arith}
use Rattle.std.specs.Str.{IsUtf8}
use Rattle.yf_chars.specs.declared.context.Ctx.TheVariants.{BlockIn}
use Rattle.yf_chars.specs.Text.{code}
use Rattle.yf_chars.specs.Chain.{Chain, Chosen, Stuck}
use Rattle.yf_chars.specs.Chain.Chain.{done, step}
use Rattle.yf_chars.proofs.ChainLemmas.{chain_append, chain_chosen, chain_forward, chain_one}
use Rattle.yf_lines.specs.Basic.{ForbiddenLine}
use Rattle.yf_comments.specs.Comment.{CommentValue}
use Rattle.yf_comments.specs.Comments.{LineEnd, Row}
use Rattle.yf_comments.proofs.LineEndLemmas.{line_end_rows, rows_line_end}
use Rattle.yf_comments.proofs.RowLemmas.{end_code, row_functional}
use Rattle.yf_events.specs.declared.directive.Directive.{Directive}
use Rattle.yf_events.specs.declared.part.Part.{Part}
use Rattle.yf_events.specs.declared.reading.TheConstants.{DEPTH}
use Rattle.yf_grammar.specs.BlockReader.BlockParser.{LinesEnd}
use Rattle.yf_grammar.specs.Productions.Meaning.{Meaning}
use Rattle.yf_grammar.specs.Productions.ReadParts.{BlockNodePart}
use Rattle.yf_stream.specs.DirectiveReaders.{DirectivesEnd, DirectivesRead, IsDirective, LongestDirectives, no_directives, one_directive}
use Rattle.yf_stream.specs.DocumentSteps.{NoNode, SomethingBegins, line_left, none_derived, none_found}
use Rattle.yf_stream.specs.Stream.{Documents, Stream}
use Rattle.yf_stream.specs.StreamReader.{NoStream}
use Rattle.yf_stream.proofs.Reader.DirectiveLaws.{line_of, same}
use Rattle.yf_stream.proofs.Uniqueness.Forward.{line_end_forward}
use Rattle.yf_stream.proofs.Reader.NodePast.{no_node_left, no_node_over, no_node_to, no_node_unread, node_settles}
use Rattle.yf_stream.proofs.Uniqueness.OneDirective.{DirectivesTo, last_to, line_one, more_to, percent_still}
use Rattle.yf_stream.proofs.Uniqueness.OneStream.{lines_end}
use Rattle.yf_stream.proofs.Reader.PathLemmas.{path_at_dash}
use Rattle.yf_stream.proofs.Reader.PathsThrough.{PathsThrough, past_rows, settled_here}
use Rattle.yf_stream.proofs.Uniqueness.StreamPath.{ExplicitTo, NodeTo, Path, Settled, node_to, nothing_to, path_bare, path_directives, path_ends, path_explicit, path_mark, path_suffix, settled_more}

-- a document from its `---` on, and a path after it
pub record MarkedAt (t : List ℕ) (p : ℕ) : Type 0 where
  pub first : ℕ
  pub others : ℕ
  pub end : ℕ
  pub meaning : Meaning
  pub rest : Documents
  pub marker : ForbiddenLine t p
  pub dash : code t p ≡ 45
  pub node : ExplicitTo t first p end meaning
  pub path : Path t false others end rest
  pub first_within : first ≤ DEPTH
  pub others_within : others ≤ DEPTH

-- each derived stream has one there
pub record MarkedThrough (t : List ℕ) (p : ℕ) : Type 0 where
  pub path : (h : ℕ) (x : Documents) → Stream t h x → h ≤ DEPTH → MarkedAt t p

-- a document without a `---` there, and a path after it
pub record BareAt (t : List ℕ) (p : ℕ) : Type 0 where
  pub first : ℕ
  pub others : ℕ
  pub end : ℕ
  pub meaning : Meaning
  pub rest : Documents
  pub node : NodeTo t first p end meaning
  pub path : Path t false others end rest
  pub first_within : first ≤ DEPTH
  pub others_within : others ≤ DEPTH

-- directives, and a document from its `---` on
data DirectivesStep (t : List ℕ) (h k : ℕ) : Type 0 where
  directives_step : {first others p l : ℕ} {ds : List Directive} {cs : List CommentValue} {x : Meaning} {rest : Documents} → DirectivesTo t k p ds cs
      → ExplicitTo t first p l x → Path t false others l rest → ForbiddenLine t p → max first others ≡ h → DirectivesStep t h k

module _ {t : List ℕ} where
  marked_of : {h g p l : ℕ} {x : Meaning} {rest : Documents} → max h g ≤ DEPTH → ForbiddenLine t p → code t p ≡ 45 → ExplicitTo t h p l x → Path t false g l rest → MarkedAt t p
  marked_of {h} {g} {l = l} {x = x} {rest = rest} w f c n p = record {
    first = h;
    others = g;
    end = l;
    meaning = x;
    rest = rest;
    marker = f;
    dash = c;
    node = n;
    path = p;
    first_within = omega arith;
    others_within = omega arith;
  }

  pub marked_at_dash : {b : Bool} {k : ℕ} → Stuck (Row t k) → ForbiddenLine t k → code t k ≡ 45 → PathsThrough t b k → MarkedThrough t k
  marked_at_dash s f c p = record {
    path = λ h x d l.
        let a = settled_here s (p.path h x d l) in
        let e = path_at_dash f c a.path in
        record {
          first = e.first;
          others = e.others;
          end = e.end;
          meaning = e.meaning;
          rest = e.rest;
          marker = f;
          dash = c;
          node = e.node;
          path = e.path;
          first_within = omega (arith, e.height, a.within);
          others_within = omega (arith, e.height, a.within);
        };
  }

  at_percent : {b : Bool} {h k : ℕ} {x : Documents} → code t k ≡ 37 → Path t b h k x → DirectivesStep t h k
  at_percent {k = k} c (path_ends q) = let n = end_code t q in absurd (omega arith)
  at_percent c (path_mark m s p) = absurd (omega arith)
  at_percent c (path_suffix g d s p ln) = absurd (omega arith)
  at_percent c (path_explicit q d y p) = absurd (omega arith)
  at_percent c (path_directives b d e y p f) = directives_step e y p f refl
  at_percent c (path_bare b g d a y p) = absurd (d c)

  to_dash : {k p : ℕ} {ds : List Directive} {cs : List CommentValue} → DirectivesTo t k p ds cs → code t p ≡ 45
  to_dash (last_to a e) = e
  to_dash (more_to a e r) = to_dash r

  marked_step : {h k j : ℕ} → ((p : ℕ) (ds : List Directive) (cs : List CommentValue) → DirectivesTo t k p ds cs → p ≡ j) → h ≤ DEPTH → DirectivesStep t h k → MarkedAt t j
  marked_step f w (directives_step {p = q} {ds = ds} {cs = cs} d y p m e) = subst (λ z. MarkedAt t z) (f q ds cs d) (marked_of (omega (arith, e, w)) m (to_dash d) y p)

  pub marked_after_directives : {b : Bool} {k j : ℕ} {ds : List Directive} {ca cb : List CommentValue} → IsUtf8 t → code t k ≡ 37 → DirectivesRead t k j ds ca cb → PathsThrough t b k
      → MarkedThrough t j
  marked_after_directives u c r p = record {
    path = λ h x d l.
        let a = settled_here (percent_still c) (p.path h x d l) in
        marked_step (λ q ds cs e. (same u r.last r.upto.longest e).place) a.within (at_percent c a.path);
  }

  -- directives do not end at a % that begins none
  none_to : {p j : ℕ} {ds : List Directive} {cs : List CommentValue} → Stuck (IsDirective t j) → DirectivesTo t j p ds cs → ⊥
  none_to s (last_to {l = l} {d = d} {cs = cs} a e) = s.none l (record { directives = d ∷ []; comments = cs }) a.line
  none_to s (more_to {k = l} {d = d} {cs = cs} a e r) = s.none l (record { directives = d ∷ []; comments = cs }) a.line

  dash_no_more : {k j : ℕ} {ds : List Directive} {cs : List CommentValue} → code t k ≡ 45 → code t j ≡ 37 → LongestDirectives t k j ds cs → ⊥
  dash_no_more e f no_directives = absurd (omega arith)
  dash_no_more e f (one_directive c r) = let p = c.derived.percent in absurd (omega arith)

  no_end : {i j k : ℕ} {ds es : List Directive} {cs fs : List CommentValue} → IsUtf8 t → code t j ≡ 37 → Stuck (IsDirective t j) → LongestDirectives t i j ds cs → DirectivesTo t i k es fs → ⊥
  no_end u f s no_directives d = none_to s d
  no_end u f s (one_directive c r) (last_to a e) =
      let o = line_one u a (line_of c).1 in
      dash_no_more (ap (code t) (sym o.0) ∙ e) f r
  no_end u f s (one_directive c r) (more_to {l = l} {ds = ds} {es = es} a e more) =
      let o = line_one u a (line_of c).1 in
      no_end u f s r (subst (λ z. DirectivesTo t z l ds es) o.0 more)

  nowhere : {h k : ℕ} → ((p : ℕ) (ds : List Directive) (cs : List CommentValue) → DirectivesTo t k p ds cs → ⊥) → DirectivesStep t h k → ⊥
  nowhere f (directives_step {p = q} {ds = ds} {cs = cs} d y p m e) = f q ds cs d

  pub no_directives_there : {b : Bool} {k j : ℕ} → IsUtf8 t → code t k ≡ 37 → DirectivesEnd t k j → PathsThrough t b k → NoStream t
  no_directives_there u c e p h x d l =
      let a = settled_here (percent_still c) (p.path h x d l) in
      nowhere (λ q ds cs r. no_end u e.percent e.none e.longest r) (at_percent c a.path)

  -- a `---` follows directives
  pub no_marker_there : {p : ℕ} → (ForbiddenLine t p → code t p ≡ 45 → ⊥) → MarkedThrough t p → NoStream t
  no_marker_there n m h x d l = let a = m.path h x d l in n a.marker a.dash

module _ {t : List ℕ} where
  -- a line ends after each `...` of a stream, but none ends there
  pub no_line_after_dots : {b : Bool} {k : ℕ} → Stuck (Row t k) → ForbiddenLine t k → code t k ≡ 46 → Stuck (LineEnd t (k + 3)) → PathsThrough t b k → NoStream t
  no_line_after_dots {k = k} s f e n p h x d l = go (settled_here s (p.path h x d l)).path where
    go : {b : Bool} {g : ℕ} {y : Documents} → Path t b g k y → ⊥
    go (path_ends q) = let c = end_code t q in absurd (omega arith)
    go (path_mark m r q) = absurd (omega arith)
    go (path_suffix {j = j} {cs = cs} g c r q ln) = n.none j cs ln
    go (path_explicit g c y q) = absurd (omega arith)
    go (path_directives b c y z q m) = absurd (omega arith)
    go (path_bare b g c a y q) = absurd (g f)

module _ {t : List ℕ} (u : IsUtf8 t) where
  -- past the node of a document from its `---` on
  after_marked : {h k j l : ℕ} {x : Meaning} {part : Part} → Chosen (BlockNodePart t DEPTH (pos 0 -ℤ pos 1) BlockIn (k + 3)) j part → ExplicitTo t h k l x → LinesEnd t l → h ≤ DEPTH
      → (cs : List CommentValue) × Settled t j l cs
  after_marked c (node_to n) z w = node_settles u c n z w
  after_marked c (nothing_to d s) z w = absurd (no_node_over u d s z c.derived)

  pub past_marked : {k j : ℕ} {part : Part} → Chosen (BlockNodePart t DEPTH (pos 0 -ℤ pos 1) BlockIn (k + 3)) j part → MarkedThrough t k → PathsThrough t false j
  past_marked c m = record {
    path = λ h x d l.
        let a = m.path h x d l in
        let s = after_marked c a.node (lines_end a.path refl) a.first_within in
        record { place = a.end; comments = s.0; settled = s.1; goes = record { height = a.others; documents = a.rest; path = a.path; within = a.others_within } };
  }

  -- past a `---` without a node: the line ends, and `LinesEnd` holds after it and its comment lines
  still_end : {p j : ℕ} {cs : List CommentValue} → Chosen (LineEnd t p) j cs → Stuck (Row t j)
  still_end c = record {
    none = λ k y r.
        let l = c.longest k _ (rows_line_end (chain_append (line_end_rows c.derived) (chain_one r)) (let m = r.later in let o = line_end_forward c.derived in omega arith)) in
        let m = r.later in
        absurd (omega arith);
  }

  settled_at : {p j : ℕ} {cs : List CommentValue} → Chosen (LineEnd t p) j cs → Settled t j j []
  settled_at {j = j} c = record { rows = done {i = j}; last = still_end c }

  nothing_at : {p j : ℕ} {cs : List CommentValue} → Chosen (LineEnd t p) j cs → LinesEnd t j → Stuck (BlockNodePart t DEPTH (pos 0 -ℤ pos 1) BlockIn p)
  nothing_at c z = record { none = λ k part d. no_node_over u c.derived (settled_at c) z d }

  after_nothing : {h k l : ℕ} {x : Meaning} → Stuck (BlockNodePart t DEPTH (pos 0 -ℤ pos 1) BlockIn (k + 3)) → ExplicitTo t h k l x → h ≤ DEPTH
      → (cs : List CommentValue) × Settled t (k + 3) l cs
  after_nothing s (node_to n) w = absurd (no_node_to u s w n)
  after_nothing s (nothing_to {cs = cs} {es = es} d r) w = (cs ++ es, settled_more (line_end_rows d) r)

  pub past_nothing : {k j : ℕ} {cs : List CommentValue} → Chosen (LineEnd t (k + 3)) j cs → LinesEnd t j → MarkedThrough t k → PathsThrough t false j
  past_nothing e z m = record {
    path = λ h x d l.
        let a = m.path h x d l in
        let r = after_nothing (nothing_at e z) a.node a.first_within in
        past_rows (line_end_rows e.derived)
        (record { place = a.end; comments = r.0; settled = r.1; goes = record { height = a.others; documents = a.rest; path = a.path; within = a.others_within } });
  }

  -- no node of a stream's document is there, and after a `---` something is
  no_node : {h k l : ℕ} {x : Meaning} → NoNode t k → NodeTo t h k l x → LinesEnd t l → h ≤ DEPTH → ⊥
  no_node (none_derived s) n z w = no_node_to u s w n
  no_node (none_found r) n z w = no_node_unread u n z w r refl
  no_node (line_left {f = f} r o s) n z w = no_node_left u n z w (Some f) r refl o s

  rows_end : {p j m : ℕ} {cs fs : List CommentValue} → LineEnd t p j cs → Chain (Row t) j m fs → LineEnd t p m (cs ++ fs)
  rows_end {p} {j} {cs = cs} d done = subst (λ w. LineEnd t p j w) (sym (append-nil cs)) d
  rows_end d (step r c) =
      let f = line_end_forward d in
      let g = r.later in
      let h = chain_forward row_functional c in
      rows_line_end (chain_append (line_end_rows d) (step r c)) (omega arith)

  not_nothing : {p j l : ℕ} {cs es : List CommentValue} → SomethingBegins t p → LineEnd t p j cs → Settled t j l es → LinesEnd t l → ⊥
  not_nothing {p} {j} {l} {cs} {es} b d s z =
      let all = chain_chosen row_functional (chain_append (line_end_rows d) s.rows) s.last in
      let whole = rows_end d s.rows in
      b.none l (cs ++ es) (record { derived = whole; longest = λ k y e. all.longest k y (line_end_rows e); only = λ y e. all.only y (line_end_rows e) }) z

  without : {h k l : ℕ} {x : Meaning} → NoNode t (k + 3) → SomethingBegins t (k + 3) → ExplicitTo t h k l x → LinesEnd t l → h ≤ DEPTH → ⊥
  without s b (node_to y) z w = no_node s y z w
  without s b (nothing_to d r) z w = not_nothing b d r z

  pub no_marked_document : {k : ℕ} → NoNode t (k + 3) → SomethingBegins t (k + 3) → MarkedThrough t k → NoStream t
  no_marked_document s b m h x d l =
      let a = m.path h x d l in
      without s b a.node (lines_end a.path refl) a.first_within

  -- a document without `---`
  bare_of : {b : Bool} {h k : ℕ} {x : Documents} → k ≢ length t → code t k ≢ 0xFEFF → (ForbiddenLine t k → ⊥) → code t k ≢ 37 → h ≤ DEPTH → Path t b h k x → BareAt t k
  bare_of n m f c w (path_ends q) = absurd (n q)
  bare_of n m f c w (path_mark e s p) = absurd (m e)
  bare_of n m f c w (path_suffix g e s p ln) = absurd (f g)
  bare_of n m f c w (path_explicit g e y p) = absurd (f g)
  bare_of n m f c w (path_directives b e d y p g) = absurd (c e)
  bare_of n m f c w (path_bare {h = h} {g = g} {l = l} {x = x} {rest = rest} b e q a y p) = record {
    first = h;
    others = g;
    end = l;
    meaning = x;
    rest = rest;
    node = y;
    path = p;
    first_within = omega arith;
    others_within = omega arith;
  }

  pub past_bare : {b : Bool} {k j : ℕ} {part : Part} → Stuck (Row t k) → k ≢ length t → code t k ≢ 0xFEFF → (ForbiddenLine t k → ⊥) → code t k ≢ 37
      → Chosen (BlockNodePart t DEPTH (pos 0 -ℤ pos 1) BlockIn k) j part → PathsThrough t b k → PathsThrough t false j
  past_bare s n m f c y p = record {
    path = λ h x d l.
        let w = settled_here s (p.path h x d l) in
        let a = bare_of n m f c w.within w.path in
        let r = node_settles u y a.node (lines_end a.path refl) a.first_within in
        record { place = a.end; comments = r.0; settled = r.1; goes = record { height = a.others; documents = a.rest; path = a.path; within = a.others_within } };
  }

  pub no_bare_document : {b : Bool} {k : ℕ} → Stuck (Row t k) → k ≢ length t → code t k ≢ 0xFEFF → (ForbiddenLine t k → ⊥) → code t k ≢ 37 → NoNode t k → PathsThrough t b k → NoStream t
  no_bare_document s n m f c y p h x d l =
      let w = settled_here s (p.path h x d l) in
      let a = bare_of n m f c w.within w.path in
      no_node y a.node (lines_end a.path refl) a.first_within
