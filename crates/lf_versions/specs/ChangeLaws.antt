-- Changes are equal where their quads are, so a set may hold them.
use Rattle.std.specs.Prelude.{◌≡◌, true}
use Rattle.std.specs.Bool.{Decides}
use Rattle.std.specs.Cmp.{IsEquivalence}
use Rattle.std.proofs.Common.{ap, subst, refl}
use Rattle.def_datasets.proofs.Bools.{same_truth}
use Rattle.def_datasets.proofs.OrderLaws.{quad_decides}
use Rattle.lf_versions.specs.declared.change.Change.{Change}
use Rattle.lf_versions.specs.Changes.{same_change}

change_told : (one two : Change) → same_change one two ≡ true → one ≡ two
change_told one two e = λ i. record { quad = (quad_decides one.quad two.quad).0 e i }

change_itself : (one : Change) → same_change one one ≡ true
change_itself one = (quad_decides one.quad one.quad).1 refl

pub changes_decide : (one two : Change) → Decides (same_change one two) (one ≡ two)
changes_decide one two =
    (change_told one two, λ e. subst (λ c. same_change one c ≡ true) e (change_itself one))

pub changes_equal : IsEquivalence same_change
changes_equal =
    record {
      refl = change_itself;
      symm = λ one two.
          same_truth (same_change one two) (same_change two one)
          (λ e. subst (λ c. same_change c one ≡ true) (change_told one two e) (change_itself one))
          (λ e. subst (λ c. same_change c two ≡ true) (change_told two one e) (change_itself two));
      congr = λ one two three e. ap (λ c. same_change c three) (change_told one two e);
    }
