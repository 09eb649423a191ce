-- JSON values whose objects have their members in byte order of the keys, each key once.
use Rattle.std.specs.Prelude.{◌≡◌, Some, map}
use Rattle.std.specs.List.Sorted.{IsStrictlySortedBy}
use Rattle.std.specs.Ordering.{nat_cmp}
use Rattle.std.specs.Cmp.Lexicographic.{slice_cmp}
use Rattle.lf_model.specs.declared.table.TermTable.{TermTable}
use Rattle.lf_model.specs.JsonData.{JsonValue, null, truth, whole, fraction, text, array, object, JsonItems, no_items, item, JsonMembers, no_members, member, members_list}
use Rattle.lf_model.specs.TreeData.{TreeNode}
use Rattle.def_documents.specs.Nodes.{compact}

abbrev mutual
  pub IsOrdered : JsonValue → Type 0
  IsOrdered null = Unit {0}
  IsOrdered (truth flag) = Unit {0}
  IsOrdered (whole number) = Unit {0}
  IsOrdered fraction = Unit {0}
  IsOrdered (text characters) = Unit {0}
  IsOrdered (array items) = AreOrdered items
  IsOrdered (object members) =
      IsStrictlySortedBy (slice_cmp nat_cmp) (map (λ entry. entry.0) (members_list members))
      × HaveOrdered members

  -- each item of an array
  pub AreOrdered : JsonItems → Type 0
  AreOrdered no_items = Unit {0}
  AreOrdered (item value rest) = IsOrdered value × AreOrdered rest

  -- each value of an object
  pub HaveOrdered : JsonMembers → Type 0
  HaveOrdered no_members = Unit {0}
  HaveOrdered (member key value rest) = IsOrdered value × HaveOrdered rest

-- each object of a compacted tree has its members in byte order of the keys, each key once
abbrev pub CompactedIsOrdered : Type 0
CompactedIsOrdered =
    (table : TermTable) (root : TreeNode) (json : JsonValue) → compact table root ≡ Some json →
    IsOrdered json
