-- The law of the start of a node's content. `proofs/Writable/ContentFound.antt` proves it.
use Rattle.std.specs.Prelude.{◌≡◌, ◌≢◌, ◌<◌, ℕ, ℤ, true, List}
use Rattle.std.specs.Str.{IsUtf8}
use Rattle.yf_chars.specs.declared.context.Ctx.{Ctx}
use Rattle.yf_chars.specs.Class.{is_ns_char}
use Rattle.yf_chars.specs.Text.{code}
use Rattle.yf_comments.specs.Comment.{CommentValue}
use Rattle.yf_comments.specs.Comments.{Separate}
use Rattle.yf_props.specs.Names.{Properties, PropertiesValue}
use Rattle.yf_forms.specs.Nodes.ContentStart.{content_start}

-- If properties are derived, and content is separated from them that begins with a visible character other than `#`,
-- `&` and `!`, as each scalar and each flow collection does, then `content_start` is the start of that content,
-- whatever comments are between.
abbrev pub ContentStartsAreFound : Type 0
ContentStartsAreFound = (t : List ℕ) (n : ℤ) (c : Ctx) (a g k b : ℕ) (p : PropertiesValue) (cs : List CommentValue) → IsUtf8 t → Properties t n c a g p
    → Separate t n c g k cs → is_ns_char (code t k) ≡ true → code t k ≢ 35 → code t k ≢ 38 → code t k ≢ 33 → k < b
    → content_start t (record { start = a; end = b }) p.props ≡ k
