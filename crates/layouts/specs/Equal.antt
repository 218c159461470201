-- When two layouts have the same parts, as a test. Their masks follow from the parts.
use Rattle.std.specs.Prelude.{Bool, ◌≡◌, ◌&&◌, ◌==◌, Decides}
use Rattle.std.specs.Bool.{beq}
use Rattle.std.specs.Option.{option_eq}
use Rattle.std.specs.Cmp.Lexicographic.{pointwise}
use Rattle.layouts.specs.declared.info.BindGroupInfo.{BindGroupInfo}
use Rattle.layouts.specs.declared.info.ImmediatesInfo.{ImmediatesInfo}
use Rattle.layouts.specs.declared.info.PipelineLayoutSpecialConstants.{PipelineLayoutSpecialConstants}
use Rattle.layouts.specs.declared.layout.PipelineLayout.{PipelineLayout}

abbrev pub same_special : PipelineLayoutSpecialConstants → PipelineLayoutSpecialConstants → Bool
same_special c d = c.root_index == d.root_index && beq c.own_signature d.own_signature

abbrev pub same_immediates : ImmediatesInfo → ImmediatesInfo → Bool
same_immediates i j = i.root_index == j.root_index && i.size == j.size

abbrev pub same_group : BindGroupInfo → BindGroupInfo → Bool
same_group g h =
    g.base_root_index == h.base_root_index && (beq g.table h.table && g.uniforms == h.uniforms)

-- two layouts have the same parts
abbrev pub same_layout : PipelineLayout → PipelineLayout → Bool
same_layout l m =
    l.signature == m.signature && (l.total_root_elements == m.total_root_elements
    && (option_eq same_special l.special_constants m.special_constants
    && (option_eq same_immediates l.immediates_info m.immediates_info
    && pointwise (option_eq same_group) l.bind_group_infos m.bind_group_infos)))

-- the test holds exactly where the two are one value
abbrev pub EqualLayoutsAreOne : Type 0
EqualLayoutsAreOne = (l m : PipelineLayout) → Decides (same_layout l m) (l ≡ m)
