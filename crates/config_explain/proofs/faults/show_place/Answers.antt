use Rattle.std.proofs.Common.{rules, ◌≡◌, ◌++◌, OnOk, string_bytes}
use Rattle.config_explain.proofs.Explaining.{place_shown}
use Rattle.config_explain.proofs.faults.show_place.Goals as goal

pub returns : goal.returns
returns c =
    let before = string_bytes c.push_member.new.out in
    let line = c.deref.result.now in
    let shown : OnOk c.push_str.result (string_bytes c.push_str.new.self ≡ before ++ line) =
    search rules in
    place_shown c.args.section c.args.member _ before line _ c.push_str.result
    c.in_ok-push_member.ensures shown
