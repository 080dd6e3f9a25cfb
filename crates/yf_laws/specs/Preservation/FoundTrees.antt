-- The documents found when a laid-out text u is read. Its trees differ from those that were laid out only in offsets, a
-- comment trails a key in both or in neither, and no comment is within a flow collection.
use Rattle.std.specs.Prelude.{◌≡◌, ℕ, List, [], ◌∷◌, map}
use Rattle.yf_comments.specs.Comment.{CommentValue}
use Rattle.yf_events.specs.Tree.{DocumentTree, TreesOf}
use Rattle.yf_events.specs.declared.directive.Directive.{Directive}
use Rattle.yf_events.specs.declared.document.Doc.{Doc}
use Rattle.yf_events.specs.declared.lists.Lists.{Lists}
use Rattle.yf_forms.specs.declared.style.Style.{Style}
use Rattle.yf_laws.specs.Preservation.AlikeBlocks.{AlikeBlocks}
use Rattle.yf_forms.specs.NormalForms.BareStart.{is_bare}
use Rattle.yf_laws.specs.Layouts.Decorated.{first_gap, row_decos, rows_of}
use Rattle.yf_print.specs.Layouts.KeptColumns.{columns_of}
use Rattle.yf_laws.specs.Nodes.FlowsWithoutComments.{Undisturbed}

abbrev pub words_of : List Directive → List (List (List ℕ))
words_of ds = map (λ (e : Directive). e.words) ds

-- documents and trees with the comments cs, and those that are found, with the comments es of the text u
pub data FoundTrees (s : Style) (cs : List CommentValue) (u : List ℕ) (es : List CommentValue) : List Doc → List DocumentTree → List Doc → List DocumentTree → Type 0 where
  none_found : FoundTrees s cs u es [] [] [] []
  one_found : {d e : Doc} {ds fs : List Doc} {x y : DocumentTree} {xs ys : List DocumentTree} → words_of d.directives ≡ words_of e.directives
      → AlikeBlocks s cs es x.root y.root → Undisturbed u es y.root → FoundTrees s cs u es ds xs fs ys → FoundTrees s cs u es (d ∷ ds) (x ∷ xs) (e ∷ fs) (y ∷ ys)

-- a normal reading m of t with its trees, and the trees found in its layout u: each row carries what it carried
pub record FoundSame (t : List ℕ) (m : Lists) (s : Style) (trees : List DocumentTree) (u : List ℕ) (q : Lists) (found : List DocumentTree) : Type 0 where
  pub of_reading : TreesOf q found
  pub alike : FoundTrees s m.comments u q.comments m.documents trees q.documents found
  pub bare : is_bare q s ≡ is_bare m s
  pub gap : first_gap (columns_of u s (rows_of q s found)) q (rows_of q s found) ≡ first_gap (columns_of t s (rows_of m s trees)) m (rows_of m s trees)
  pub decos : row_decos (columns_of u s (rows_of q s found)) q (rows_of q s found) ≡ row_decos (columns_of t s (rows_of m s trees)) m (rows_of m s trees)
