use Rattle.std.proofs.Common.{rules, ◌≡◌, List, ℕ, Ok, Err, subst}
use Rattle.config_file.specs.Reading.{IsFaultOf, Says}
use Rattle.gateway_settings.specs.declared.settings.Settings.{Settings}
use Rattle.gateway_settings.specs.Exchanges.{settings_by}
use Rattle.serve_command.specs.Descriptors.{LackDescriptors}
use Rattle.serve_command.specs.declared.fault.ServiceFault.TheVariants as Service
use Rattle.serve_command.proofs.WhyUnserved.{why_few_descriptors, why_too_few, why_unread, why_unset}
use Rattle.serve_command.proofs.reading.read_settings.Goals as goal

pub returns-in_err-text-clause-refused : goal.returns-in_err-text-clause-refused
returns-in_err-text-clause-refused g c =
    let fault = c.in_err-text.field-0.0 in
    let is : c.from_residual.result ≡ Err (Service.Config fault) = search rules in
    let path = c.args.service.now.path.now in
    why_unread (g.F.Opener.unopened path) (g.F.Opener.opened path) g.F.File.Read.remaining
    c.args.service.now.exchanges c.from_residual.result fault is c.in_err-text.ensures.refused

pub returns-in_err-read-clause-refused : goal.returns-in_err-read-clause-refused
returns-in_err-read-clause-refused g c =
    let fault = c.in_err-read.field-0.0 in
    let is : c.from_residual-in_err-read.result ≡ Err (Service.Config fault) = search rules in
    let bytes = c.in_ok-text.text.items in
    let same : c.deref.result.now ≡ bytes = search rules in
    let path = c.args.service.now.path.now in
    why_unset (g.F.Opener.unopened path) (g.F.Opener.opened path) g.F.File.Read.remaining
    c.args.service.now.exchanges c.from_residual-in_err-read.result fault is bytes
    c.in_ok-text.ensures.text
    (subst (λ (xs : List ℕ). IsFaultOf xs fault) same c.in_err-read.ensures.refused)

pub returns-in_err-settings-clause-refused : goal.returns-in_err-settings-clause-refused
returns-in_err-settings-clause-refused g c =
    let had = c.in_ok-text.ensures.text in
    let bytes = c.in_ok-text.text.items in
    let s = c.in_ok-read.read in
    let says : Says bytes (Ok s) = search rules in
    let few = c.in_err-settings.field-0.0 in
    let is : c.from_residual-in_err-settings.result ≡ Err (Service.Exchanges few) = search rules in
    let path = c.args.service.now.path.now in
    why_too_few (g.F.Opener.unopened path) (g.F.Opener.opened path) g.F.File.Read.remaining
    c.args.service.now.exchanges c.from_residual-in_err-settings.result few is s
    (had.0, bytes, had.2, had.3, says) c.in_err-settings.ensures.too_few

pub returns-in_err-check_descriptors-clause-refused :
    goal.returns-in_err-check_descriptors-clause-refused
returns-in_err-check_descriptors-clause-refused g c =
    let had = c.in_ok-text.ensures.text in
    let bytes = c.in_ok-text.text.items in
    let s = c.in_ok-read.read in
    let says : Says bytes (Ok s) = search rules in
    let by = settings_by c.args.service.now.exchanges s in
    let is_by : c.in_ok-settings.settings ≡ by = search rules in
    let few = c.in_err-check_descriptors.field-0.0 in
    let is : c.from_residual-in_err-check_descriptors.result ≡ Err (Service.Descriptors few) =
    search rules in
    let path = c.args.service.now.path.now in
    why_few_descriptors (g.F.Opener.unopened path) (g.F.Opener.opened path) g.F.File.Read.remaining
    c.args.service.now.exchanges c.from_residual-in_err-check_descriptors.result few is s
    (had.0, bytes, had.2, had.3, says)
    (subst (λ (it : Settings). LackDescriptors it few) is_by c.in_err-check_descriptors.ensures)

pub returns-clause-read : goal.returns-clause-read
returns-clause-read g c =
    let had = c.in_ok-text.ensures.text in
    let bytes = c.in_ok-text.text.items in
    let s = c.in_ok-read.read in
    let says : Says bytes (Ok s) = search rules in
    record {
      settings = s;
      of_file = (had.0, bytes, had.2, had.3, says);
      enough = c.in_ok-settings.ensures.enough;
      are = search rules;
    }
