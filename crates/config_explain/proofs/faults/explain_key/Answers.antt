use Rattle.config_explain.proofs.Explaining.{key_explained}
use Rattle.config_explain.proofs.faults.explain_key.Goals as goal

pub returns : goal.returns
returns c =
    key_explained c.args.at c.args.is_missing c.section-section.result c.member_of-member.result
    c.about.result.now _ _ _ _ c.push_range.result c.section-section.ensures
    c.member_of-member.ensures c.in_ok-show_place.ensures c.in_ok-push_key.ensures
    c.push_range.ensures
