use Rattle.std.proofs.Common.{refl}
use Rattle.lf_lists.proofs.ItemByItem.{ends_within, ends_whole}
use Rattle.lf_lists.proofs.ReadStates.{near_within, none_waits}
use Rattle.lf_lists.proofs.reader.end_list.Goals as goal

-- the list that waited last goes on, with the list that ended as its last item
pub returns-in_ok-push-in-Some-clause-turns : goal.returns-in_ok-push-in-Some-clause-turns
returns-in_ok-push-in-Some-clause-turns c =
    λ dataset g goes.
    ends_within dataset g c.args.reader _ c.in-Some.outer c.in-Some.ensures.items c.in_ok-push-in-Some.ensures.ok refl c.requires.nil goes

pub returns-in_ok-push-in-Some-clause-near : goal.returns-in_ok-push-in-Some-clause-near
returns-in_ok-push-in-Some-clause-near c =
    λ dataset origin near. near_within dataset origin c.args.reader _ c.in-Some.outer c.in-Some.ensures.items refl near

-- no list waited
pub returns-in-None-clause-turns : goal.returns-in-None-clause-turns
returns-in-None-clause-turns c = λ dataset g goes. ends_whole dataset g c.args.reader (none_waits c.args.reader.open.items _ c.args.reader.open.ok.0 c.in-None.ensures.cases.0) c.requires.nil
