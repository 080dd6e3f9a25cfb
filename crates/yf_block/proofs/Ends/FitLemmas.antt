-- The relation of a line to an open collection, from the column of its first character.
use Rattle.std.proofs.Common.{◌≡◌, ℕ, ◌+◌, ◌-◌, ◌<◌, List, sym, subst, arith}
use Rattle.yf_grammar.specs.BlockReader.BlockParser.{DashAt, LineText}
use Rattle.yf_block.specs.declared.frame.Frame.{Frame}
use Rattle.yf_block.specs.declared.frame.CollectionKind.TheVariants.{Sequence, Mapping}
use Rattle.yf_block.specs.LookTests.{EntryPlace}
use Rattle.yf_block.specs.LineFits.{ItemLine, PairLine, DeepLine, EndLine, less_deep, no_dash}

module _ {t : List ℕ} {at p : ℕ} (f : Frame) (e : EntryPlace t at p) where
  at_column : p - at ≡ f.column → e.column ≡ f.column
  at_column q = let s = e.is_there in omega (arith, s, q)

  line_there : p - at ≡ f.column → LineText t at f.column e.first
  line_there q = subst (λ m. LineText t at m e.first) (at_column q) e.line

  place_there : p - at ≡ f.column → p ≡ at + f.column
  place_there q = let s = e.is_there in omega (arith, s, q)

  pub fits_before : p - at < f.column → EndLine t at f
  fits_before l = less_deep e.line (let s = e.is_there in omega (arith, s, l))

  pub fits_deeper : f.column < p - at → DeepLine t at f
  fits_deeper l = record { column = e.column; first = e.first; line = e.line; deep = let s = e.is_there in omega (arith, s, l) }

  pub fits_item : p - at ≡ f.column → f.kind ≡ Sequence → DashAt t p → ItemLine t at f p
  fits_item q k d = record { kind = k; first = e.first; line = line_there q; is_there = place_there q; dash = d }

  pub fits_pair : p - at ≡ f.column → f.kind ≡ Mapping → PairLine t at f p
  fits_pair q k = record { kind = k; first = e.first; line = line_there q; is_there = place_there q }

  pub fits_no_item : p - at ≡ f.column → f.kind ≡ Sequence → (DashAt t p → ⊥) → EndLine t at f
  fits_no_item q k n = no_dash k (line_there q) (λ d. n (subst (λ z. DashAt t z) (sym (place_there q)) d))
