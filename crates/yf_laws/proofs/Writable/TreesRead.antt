-- The trees of a reading are trees as they are read, so the documents of its normal form can be laid out and are read
-- again.
use Rattle.std.proofs.Common.{◌≡◌, ℕ, ◌+◌, ◌≤◌, Bool, true, false, List, [], map, sym, ◌∙◌, subst, append-nil, ap, refl, true≢false, ◌∷◌}
use Rattle.std.specs.Str.{IsUtf8}
use Rattle.yf_comments.specs.Comment.{CommentValue}
use Rattle.yf_events.proofs.TreeLemmas.{node_unique, trees_unique}
use Rattle.yf_events.specs.Alike.{Alike, alike_scalars, alike_aliases, alike_sequences, alike_mappings, AlikeItems, alike_nothing, alike_item, AlikePairs, alike_no_pairs, alike_pair}
use Rattle.yf_events.specs.Event.{EventInText}
use Rattle.yf_events.specs.declared.directive.Directive.{Directive}
use Rattle.yf_events.specs.declared.lists.Lists.{Lists}
use Rattle.yf_events.specs.Tree.{Node, Items, Pairs, DocumentTree, TreesOf, flat, standing}
use Rattle.yf_grammar.specs.Productions.Meaning.{Meaning}
use Rattle.yf_grammar.specs.Productions.TreesOfMeaning.{tall}
use Rattle.yf_stream.specs.ReadingOf.{ReadingOf, doc_of}
use Rattle.yf_stream.specs.Stream.{AnyDocument, Document, ExplicitNode, document_of}
use Rattle.yf_stream.specs.Stream.AnyDocument.{bare_document, directive_document, explicit_document}
use Rattle.yf_stream.specs.Stream.ExplicitNode.{marked_node, marked_nothing}
use Rattle.yf_stream.proofs.Offsets.ReadingTrees.{TreesMeant, no_trees_meant, tree_meant, reading_is_at}
use Rattle.yf_stream.proofs.Uniqueness.StreamDocuments.{DocumentsDerived, no_documents_derived, document_derived, stream_derived}
use Rattle.yf_laws.specs.Layouts.FitDocuments.{FitDirectives, fit_no_directives, FitDocuments, fit_no_documents, fit_document, FitsBare, fits_marked, fits_bare}
use Rattle.yf_forms.specs.NormalForms.Normal.{LayoutSetting, root_margins, normal_document}
use Rattle.yf_laws.proofs.Writable.ReadTrees.{ReadNode, read_nothing, read_props, read_scalar, read_alias, read_sequence, read_mapping, ReadItems, read_no_items, read_item, ReadPairs, read_no_pairs, read_pair}
use Rattle.yf_laws.proofs.Writable.DirectivesFit.{directives_fit}
use Rattle.yf_laws.proofs.Writable.ReadDerived.{reads}
use Rattle.yf_laws.proofs.Writable.ReadFits.{read_fits}
use Rattle.yf_laws.proofs.Writable.ReadParts.{NodeRead, node_noting, nothing_read}
use Rattle.std.specs.Prelude.{is_some, not}
use Rattle.yf_laws.proofs.NormalForms.NormalSame.{root_same}
use Rattle.yf_laws.proofs.Derived.SpannedNodes.{has_span, spanned, spanned_node, alike_spanned}

-- The facts about the reading of a tree hold for each tree alike.

mutual
  pub read_alike : {K : Node → Node → Node → Node → Type 0} {b : Bool} {x y : Node} → Alike K x y → ReadNode b x → ReadNode b y
  read_alike (alike_scalars e) (read_nothing s) = read_nothing (sym e ∙ s)
  read_alike (alike_scalars e) (read_props s p n) = read_props (sym e ∙ s) p n
  read_alike (alike_scalars e) (read_scalar s f u r) = read_scalar (sym e ∙ s) f u r
  read_alike (alike_aliases e) (read_alias s n) = read_alias (sym e ∙ s) n
  read_alike (alike_sequences e a) (read_sequence s f r) = read_sequence (sym e ∙ s) f (items_alike a r)
  read_alike (alike_mappings e a) (read_mapping s f r) = read_mapping (sym e ∙ s) f (pairs_alike a r)

  items_alike : {K : Node → Node → Node → Node → Type 0} {b : Bool} {xs ys : Items} → AlikeItems K xs ys → ReadItems b xs → ReadItems b ys
  items_alike alike_nothing read_no_items = read_no_items
  items_alike (alike_item a more) (read_item r rs) = read_item (read_alike a r) (items_alike more rs)

  pairs_alike : {K : Node → Node → Node → Node → Type 0} {b : Bool} {ps qs : Pairs} → AlikePairs K ps qs → ReadPairs b ps → ReadPairs b qs
  pairs_alike alike_no_pairs read_no_pairs = read_no_pairs
  pairs_alike (alike_pair a c k more) (read_pair r s rs) = read_pair (read_alike a r) (read_alike c s) (pairs_alike more rs)

-- Documents.

abbrev pub first_unmarked : List Document → Bool
first_unmarked [] = false
first_unmarked (d ∷ ds) = not d.marked

-- the facts about a derived document
pub record DocumentRead (h : ℕ) (d : Document) : Type 0 where
  pub node : Node
  pub low : tall node ≤ h
  pub events : d.events ≡ flat node
  pub read : ReadNode false node
  pub directives : FitDirectives d.directives
  -- without a `---` a document has no directives, and its node has characters
  pub bare : d.marked ≡ false → (d.directives ≡ []) × (is_some (standing node).span ≡ true)

-- events are those of at most one tree
pub same_node : {es : List EventInText} {x y : Node} → es ≡ flat x → es ≡ flat y → x ≡ y
same_node {x = x} {y = y} e f = (node_unique x y [] [] (append-nil (flat x) ∙ (sym e ∙ (f ∙ sym (append-nil (flat y)))))).0

module _ {t : List ℕ} (u : IsUtf8 t) where
  explicit_read : {h i j : ℕ} {x : Meaning} → ExplicitNode t h i j x → NodeRead h false x
  explicit_read (marked_node e n) = reads u n.derived
  explicit_read (marked_nothing {i = i} {cs = cs} e d) = node_noting cs (nothing_read false (i + 3))

  document_with : {h : ℕ} {x : Meaning} (i : ℕ) (marked : Bool) (ds : List Directive) → FitDirectives ds → (a : NodeRead h false x) → (marked ≡ false → (ds ≡ []) × (is_some (standing a.node).span ≡ true))
      → DocumentRead h (document_of i marked ds x)
  unfolding document_of
  document_with i marked ds f a b = record { node = a.node; low = a.low; events = a.events; read = a.read; directives = f; bare = b }

  marked_so : {P : Type 0} → true ≡ false → P
  marked_so e = absurd (true≢false e)

  pub document_read : {h i j : ℕ} {d : Document} {cs : List CommentValue} → AnyDocument t h i j d cs → DocumentRead h d
  document_read (bare_document {k = k} n c) = let a = reads u n.derived in document_with k false [] fit_no_directives a (λ e. (refl, sym (spanned_node a.node) ∙ (ap has_span (sym a.events) ∙ spanned n.derived)))
  document_read (explicit_document {i = i} e) = document_with i true [] fit_no_directives (explicit_read e) marked_so
  document_read (directive_document {k = k} {ds = ds} d e) = document_with k true ds.directives (directives_fit u d) (explicit_read e) marked_so

  documents_fit : {h : ℕ} {ds : List Document} {trees : List DocumentTree} (s : List ℕ) (c : LayoutSetting) → DocumentsDerived t h ds → TreesMeant ds trees
      → FitDocuments c.style (map doc_of ds) (map (normal_document s c) trees)
  documents_fit s c no_documents_derived no_trees_meant = fit_no_documents
  documents_fit s c (document_derived a l more) (tree_meant {x = x} e b others) =
      let d = document_read a in
      let read : ReadNode false x = subst (λ w. ReadNode false w) (same_node d.events e) d.read in
      fit_document d.directives (read_fits s c (root_margins c.style) (read_alike b read)) (documents_fit s c more others)

  -- the first of them, if it has no `---`
  first_bare : {h : ℕ} {ds : List Document} {trees : List DocumentTree} (s : List ℕ) (c : LayoutSetting) (b : Bool) → (b ≡ true → first_unmarked ds ≡ true) → DocumentsDerived t h ds → TreesMeant ds trees
      → FitsBare b (map doc_of ds) (map (normal_document s c) trees)
  first_bare s c false f d m = fits_marked
  first_bare s c true f no_documents_derived no_trees_meant = absurd (true≢false (sym (f refl)))
  first_bare s c true f (document_derived {d = d} a l more) (tree_meant {x = x} {tree = tree} e b others) =
      let read = document_read a in
      let unmarked : d.marked ≡ false = turned d.marked (f refl) in
      let both = read.bare unmarked in
      fits_bare both.0 (ap (λ w. is_some w.span) (root_same s c tree).standing ∙ (sym (alike_spanned b) ∙ (ap (λ w. is_some (standing w).span) (sym (same_node read.events e)) ∙ both.1)))
    where
      turned : (b : Bool) → not b ≡ true → b ≡ false
      turned true e = sym e
      turned false e = refl

  pub reading_bare : {r : Lists} {trees : List DocumentTree} (s : List ℕ) (c : LayoutSetting) (b : Bool) → (a : ReadingOf t r) → TreesOf r trees → (b ≡ true → first_unmarked a.derived.documents ≡ true)
      → FitsBare b r.documents (map (normal_document s c) trees)
  reading_bare {r = r} {trees = trees} s c b a of_reading f =
      let w = reading_is_at u a in
      let same : w.trees ≡ trees = trees_unique r w.trees trees w.of_reading of_reading in
      let bare = first_bare s c b f (stream_derived a.reads.shapes.derived) w.meant in
      subst (λ ds. FitsBare b ds (map (normal_document s c) trees)) (sym a.documents)
      (subst (λ xs. FitsBare b (map doc_of a.derived.documents) (map (normal_document s c) xs)) same bare)

  -- of a reading
  pub reading_fits : {r : Lists} {trees : List DocumentTree} (s : List ℕ) (c : LayoutSetting) → ReadingOf t r → TreesOf r trees
      → FitDocuments c.style r.documents (map (normal_document s c) trees)
  reading_fits {r = r} {trees = trees} s c a of_reading =
      let w = reading_is_at u a in
      let same : w.trees ≡ trees = trees_unique r w.trees trees w.of_reading of_reading in
      let fits = documents_fit s c (stream_derived a.reads.shapes.derived) w.meant in
      subst (λ ds. FitDocuments c.style ds (map (normal_document s c) trees)) (sym a.documents)
      (subst (λ xs. FitDocuments c.style (map doc_of a.derived.documents) (map (normal_document s c) xs)) same fits)
