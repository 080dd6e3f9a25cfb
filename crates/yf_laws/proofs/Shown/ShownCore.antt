-- Texts that match the patterns of the core schema, and one that does not.
use Rattle.std.proofs.Common.{◌≡◌, false, true≢false, refl, sym, ◌∙◌}
use Rattle.std.specs.Prelude.{[], codes}
use Rattle.yf_lines.specs.CoreSchema.{Matches, in_class, as_written, in_order, the_one, the_other, left_out, given, no_time, once_more, core_pattern}
use Rattle.yf_lines.specs.Steady.{is_steady, is_only, is_marker_of, has_line_feed, ends_with_colon}
use Rattle.yf_lines.proofs.CoreSteady.{core_is_steady}

nothing : Matches core_pattern []
nothing = the_one (the_other (the_other as_written))

tilde : Matches core_pattern (codes "~")
tilde = the_one (the_other (the_one as_written))

boolean : Matches core_pattern (codes "False")
boolean = the_other (the_one (the_other (the_other (the_one as_written))))

hexadecimal : Matches core_pattern (codes "0x1F")
hexadecimal = the_other (the_other (the_one (the_other (the_other (in_order as_written (in_order (in_class refl) (once_more (in_class refl) no_time)))))))

signed : Matches core_pattern (codes "+12")
signed = the_other (the_other (the_one (the_one (in_order (given (in_class refl)) (in_order (in_class refl) (once_more (in_class refl) no_time))))))

floating : Matches core_pattern (codes "-1.5e3")
floating = the_other (the_other (the_other (the_one (in_order (given (in_class refl)) (in_order
    (the_other (in_order (in_order (in_class refl) no_time) (given (in_order as_written (once_more (in_class refl) no_time)))))
    (given (in_order (in_class refl) (in_order left_out (in_order (in_class refl) no_time)))))))))

infinite : Matches core_pattern (codes "-.inf")
infinite = the_other (the_other (the_other (the_other (the_one (in_order (given (in_class refl)) (the_one as_written))))))

-- the end of a document is not one of them
points_unsteady : is_steady (codes "...") ≡ false
unfolding is_steady is_only is_marker_of has_line_feed ends_with_colon
points_unsteady = refl

no_points : Matches core_pattern (codes "...") → ⊥
no_points m = true≢false (sym (core_is_steady (codes "...") m) ∙ points_unsteady)
