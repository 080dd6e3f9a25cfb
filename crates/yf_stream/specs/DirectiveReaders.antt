-- The results of the readers of directives: the longest run of parameters, and directives with all comment lines after
-- them.
use Rattle.std.specs.Prelude.{◌≡◌, ◌≢◌, ℕ, ◌+◌, List, [], ◌∷◌, ◌++◌, slice_range}
use Rattle.yf_chars.specs.Text.{code}
use Rattle.yf_chars.specs.Class.{is_ns_char}
use Rattle.yf_chars.specs.Chain.{Chain, Chosen, One, Stuck}
use Rattle.yf_comments.specs.Comment.{CommentValue}
use Rattle.yf_comments.specs.Comments.{LineEnd}
use Rattle.yf_props.specs.Names.{Run}
use Rattle.yf_events.specs.declared.directive.Directive.{Directive}
use Rattle.yf_stream.specs.Stream.{Directives, Parameters, ReservedParameter}

-- the words of a directive with another name than YAML and TAG have been read up to an offset, as far as they go, and
-- added to a list
pub record ReservedRead (t : List ℕ) (i j : ℕ) (a b : List (List ℕ)) : Type 0 where
  pub words : List (List ℕ)
  pub read : Chosen (Chain (ReservedParameter t) i) j words
  pub list : b ≡ a ++ words

-- the parameters of a directive with that name have been read up to an offset, as far as they go, and added to a list
pub record WordsRead (t name : List ℕ) (i j : ℕ) (a b : List (List ℕ)) : Type 0 where
  pub words : List (List ℕ)
  pub read : Chosen (Parameters t name i) j words
  pub list : b ≡ a ++ words

-- l-directive, once, with the comment lines after it
pub record IsDirective (t : List ℕ) (i j : ℕ) (x : Directives) : Type 0 where
  pub name_end : ℕ
  pub words_end : ℕ
  pub words : List (List ℕ)
  pub percent : code t i ≡ 37
  pub name : Run (One t is_ns_char) (i + 1) name_end
  pub parameters : Parameters t (slice_range t (i + 1) name_end) name_end words_end words
  pub ends : LineEnd t words_end j x.comments
  pub is : x.directives ≡ record { offset = i; words = slice_range t (i + 1) name_end ∷ words } ∷ []

-- directives in order, each with all comment lines after it
pub data LongestDirectives (t : List ℕ) : ℕ → ℕ → List Directive → List CommentValue → Type 0 where
  no_directives : {i : ℕ} → LongestDirectives t i i [] []
  one_directive : {i k j : ℕ} {x : Directives} {ds : List Directive} {cs : List CommentValue} → Chosen (IsDirective t i) k x
      → LongestDirectives t k j ds cs → LongestDirectives t i j (x.directives ++ ds) (x.comments ++ cs)

-- directives from one offset to another have been read, and their comments have been added to a list
pub record DirectivesUpto (t : List ℕ) (i j : ℕ) (ds : List Directive) (a b : List CommentValue) : Type 0 where
  pub comments : List CommentValue
  pub longest : LongestDirectives t i j ds comments
  pub list : b ≡ a ++ comments

-- all directives have been read: no % follows
pub record DirectivesRead (t : List ℕ) (i j : ℕ) (ds : List Directive) (a b : List CommentValue) : Type 0 where
  pub upto : DirectivesUpto t i j ds a b
  pub last : code t j ≢ 37

-- directives from an offset on end at a % that begins no directive
pub record DirectivesEnd (t : List ℕ) (i p : ℕ) : Type 0 where
  pub before : Directives
  pub longest : LongestDirectives t i p before.directives before.comments
  pub percent : code t p ≡ 37
  pub none : Stuck (IsDirective t p)
