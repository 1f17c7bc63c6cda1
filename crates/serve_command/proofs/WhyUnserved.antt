-- Why a gateway didn't serve, by what was read of its configuration.
use Rattle.std.proofs.Common.{◌≡◌, inl, inr, ℕ, List, Option, Result, Err, IfErr, IsErrOf}
use Rattle.std.proofs.Common.{refl, subst, sym}
use Rattle.std.specs.declared.net.socket_addr.SocketAddrV4.{SocketAddrV4}
use Rattle.counted_io.specs.declared.counted.Counted.{Counted}
use Rattle.counted_io.specs.Causes.{IsWriteCause}
use Rattle.counted_io.specs.Count.{raised}
use Rattle.counted_io.specs.Counted.{failures_of, inner_of}
use Rattle.config_file.specs.declared.file_fault.FileFault.{FileFault}
use Rattle.config_file.specs.declared.unread_file.UnreadFile.{UnreadFile}
use Rattle.config_file.specs.declared.unread_file.UnreadFile.TheVariants as Left
use Rattle.config_file.specs.FileFault.{fault_of}
use Rattle.config_file.specs.Reading.{Held, IsFaultOf, IsUnreadFile, IsWhyUnread}
use Rattle.serve_command.specs.declared.fault.ServiceFault.{ServiceFault}
use Rattle.serve_command.specs.declared.fault.ServiceFault.TheVariants as Service
use Rattle.gateway_settings.specs.declared.settings.Settings.{Settings}
use Rattle.gateway_settings.specs.declared.exchanges.TooFewExchanges.{TooFewExchanges}
use Rattle.gateway_settings.specs.Exchanges.{AreTooFew, settings_by}
use Rattle.serving.specs.declared.fault.ServeFault.{ServeFault}
use Rattle.serving.specs.declared.fault.ServeFault.TheVariants as Serve
use Rattle.serve_command.specs.declared.descriptors.TooFewDescriptors.{TooFewDescriptors}
use Rattle.serve_command.specs.Descriptors.{LackDescriptors}
use Rattle.serve_command.specs.ServiceFault.{of_workers}
use Rattle.serve_command.specs.Binding.{IsBound, IsBoundToo, IsOfAdmin, IsOfBinding, IsUnboundToo}
use Rattle.serve_command.specs.Command.{AreOfFile, IsOfServing, IsOfSettings, IsWhyOfService}

-- a fault that isn't one of the configuration or of writing the counters
abbrev IsServing : ServiceFault → Type 0
IsServing (Service.Config fault) = ⊥
IsServing (Service.Exchanges few) = ⊥
IsServing (Service.Descriptors few) = ⊥
IsServing Service.Listen = Unit {0}
IsServing Service.Memory = Unit {0}
IsServing Service.Thread = Unit {0}
IsServing Service.Miscounted = Unit {0}
IsServing Service.Write = ⊥

-- as is each that serving has a cause of
pub serving_is : {L : Type 0} (Bound : List ℕ → L → Type 0) (Unbound : List ℕ → Type 0)
    (listen : List ℕ) (admin status : Option SocketAddrV4) (before after : ℕ) (Miscounts : Type 0)
    (f : ServiceFault) → IsOfServing Bound Unbound listen admin status before after Miscounts f
    → IsServing f
serving_is Bound Unbound listen admin status before after M (Service.Config fault) of = absurd of
serving_is Bound Unbound listen admin status before after M (Service.Exchanges few) of = absurd of
serving_is Bound Unbound listen admin status before after M (Service.Descriptors few) of = absurd of
serving_is Bound Unbound listen admin status before after M Service.Listen of = tt
serving_is Bound Unbound listen admin status before after M Service.Memory of = tt
serving_is Bound Unbound listen admin status before after M Service.Thread of = tt
serving_is Bound Unbound listen admin status before after M Service.Miscounted of = tt
serving_is Bound Unbound listen admin status before after M Service.Write of = absurd of

module _ {F X : Type 0} (Unopened : Type 0) (Opened : F → Type 0)
    (remaining : F → Option (List ℕ)) (exchanges : Option ℕ) (r : Result X ServiceFault) where
  abbrev OfSettings : ServiceFault → Type 0
  OfSettings = IsOfSettings Unopened Opened remaining exchanges

  of_settings : (fault : ServiceFault) → r ≡ Err fault → OfSettings fault → IfErr r OfSettings
  of_settings fault is = subst (λ (x : Result X ServiceFault). IfErr x OfSettings) (sym is)

  -- the file's text was not had
  pub why_unread : (fault : FileFault) → r ≡ Err (Service.Config fault)
      → IsUnreadFile Unopened Opened remaining fault → IfErr r OfSettings
  why_unread fault is unread =
      of_settings (Service.Config fault) is
      (subst (λ (f : FileFault). OfSettings (Service.Config f)) (sym unread.1)
      (go unread.0 unread.2))
    where
      go : (left : UnreadFile F) → IsWhyUnread Unopened Opened remaining left
          → OfSettings (Service.Config (fault_of left))
      go Left.Unopened none = inl (refl, none)
      go (Left.Unread after fault) why = inr (why.0, after, why.1.0, inl why.2)

  -- the text holds no settings
  pub why_unset : (fault : FileFault) → r ≡ Err (Service.Config fault) → (bytes : List ℕ)
      → ((b : Counted F) × (a : Counted F) × Opened (inner_of b) × Held remaining b bytes
      × (failures_of a ≡ failures_of b))
      → IsFaultOf bytes fault → IfErr r OfSettings
  why_unset fault is bytes had of_bytes =
      of_settings (Service.Config fault) is
      (inr (had.0, had.1, had.2, inr (had.4, (bytes, had.3, of_bytes))))

  -- too few exchanges are given for its settings
  pub why_too_few : (few : TooFewExchanges) → r ≡ Err (Service.Exchanges few) → (s : Settings)
      → AreOfFile Opened remaining s → AreTooFew exchanges s few.wanted → IfErr r OfSettings
  why_too_few few is s had wanted = of_settings (Service.Exchanges few) is (s, had, wanted)

  -- too few descriptors are given for the exchanges
  pub why_few_descriptors : (few : TooFewDescriptors) → r ≡ Err (Service.Descriptors few)
      → (s : Settings) → AreOfFile Opened remaining s
      → LackDescriptors (settings_by exchanges s) few → IfErr r OfSettings
  why_few_descriptors few is s had lack = of_settings (Service.Descriptors few) is (s, had, lack)

module _ {F W X : Type 0} (Unopened : Type 0) (Opened : F → Type 0)
    (remaining : F → Option (List ℕ)) (exchanges : Option ℕ)
    (OfServing : Settings → ServiceFault → Type 0) (w : Counted W) (r : Result X ServiceFault) where
  abbrev Why : ServiceFault → Type 0
  Why = IsWhyOfService Unopened Opened remaining exchanges OfServing w w

  why : (fault : ServiceFault) → r ≡ Err fault → Why fault → IfErr r Why
  why fault is = subst (λ (x : Result X ServiceFault). IfErr x Why) (sym is)

  -- there are no settings
  pub why_unready : (fault : ServiceFault) → r ≡ Err fault
      → IsOfSettings Unopened Opened remaining exchanges fault → IfErr r Why
  why_unready fault is of = why fault is (go fault of)
    where
      go : (f : ServiceFault) → IsOfSettings Unopened Opened remaining exchanges f → Why f
      go (Service.Config fault) of = (refl, of)
      go (Service.Exchanges few) of = (refl, of)
      go (Service.Descriptors few) of = (refl, of)
      go Service.Listen of = absurd of
      go Service.Memory of = absurd of
      go Service.Thread of = absurd of
      go Service.Miscounted of = absurd of
      go Service.Write of = absurd of

  -- serving itself failed, once settings were had
  pub why_unserved : (fault : ServiceFault) → r ≡ Err fault → (s : Settings)
      → AreOfFile Opened remaining s → OfServing (settings_by exchanges s) fault
      → IsServing fault → IfErr r Why
  why_unserved fault is s had of served = why fault is (go fault of served)
    where
      go : (f : ServiceFault) → OfServing (settings_by exchanges s) f → IsServing f → Why f
      go (Service.Config fault) of served = absurd served
      go (Service.Exchanges few) of served = absurd served
      go (Service.Descriptors few) of served = absurd served
      go Service.Listen of served = (refl, (s, had, of))
      go Service.Memory of served = (refl, (s, had, of))
      go Service.Thread of served = (refl, (s, had, of))
      go Service.Miscounted of served = (refl, (s, had, of))
      go Service.Write of served = absurd served

-- its counters weren't written
pub why_unwritten : {F W X : Type 0} (Unopened : Type 0) (Opened : F → Type 0)
    (remaining : F → Option (List ℕ)) (exchanges : Option ℕ)
    (OfServing : Settings → ServiceFault → Type 0) (old new : Counted W) (r : Result X ServiceFault)
    → r ≡ Err Service.Write → IsWriteCause old new → (s : Settings)
    → AreOfFile Opened remaining s
    → IfErr r (IsWhyOfService Unopened Opened remaining exchanges OfServing old new)
why_unwritten {F} {W} {X} Unopened Opened remaining exchanges OfServing old new r is cause s had =
    subst (λ (x : Result X ServiceFault). IfErr x
    (IsWhyOfService Unopened Opened remaining exchanges OfServing old new)) (sym is)
    (cause, (s, had, tt))

-- bound at an address, by its text
pub bound_at : {L : Type 0} (Bound : List ℕ → L → Type 0) (text listen : List ℕ) (listener : L)
    → text ≡ listen → Bound text listener → IsBound Bound listen
bound_at Bound text listen listener same bound =
    (listener, subst (λ (xs : List ℕ). Bound xs listener) same bound)

-- why not all addresses were bound
module _ {L X : Type 0} (Bound : List ℕ → L → Type 0) (Unbound : List ℕ → Type 0)
    (listen : List ℕ) (admin status : Option SocketAddrV4) (r : Result X ServiceFault) where
  abbrev OfBinding : ServiceFault → Type 0
  OfBinding = IsOfBinding Bound Unbound listen admin status

  of_binding : (fault : ServiceFault) → r ≡ Err fault → OfBinding fault → IfErr r OfBinding
  of_binding fault is = subst (λ (x : Result X ServiceFault). IfErr x OfBinding) (sym is)

  -- the address of clients
  pub lacks_front : (fault : ServiceFault) → r ≡ Err fault
      → (fault ≡ Service.Listen) × Unbound listen → IfErr r OfBinding
  lacks_front fault is none = of_binding fault is (subst OfBinding (sym none.0) (inl none.1))

  -- that of the operator, or memory for it
  pub lacks_admin : (fault : ServiceFault) → r ≡ Err fault → IsBound Bound listen
      → IsOfAdmin Unbound admin fault → IfErr r OfBinding
  lacks_admin fault is bound why = of_binding fault is (go fault why)
    where
      go : (f : ServiceFault) → IsOfAdmin Unbound admin f → OfBinding f
      go (Service.Config fault) why = absurd why
      go (Service.Exchanges few) why = absurd why
      go (Service.Descriptors few) why = absurd why
      go Service.Listen why = inr (inl (bound, why))
      go Service.Memory why = bound
      go Service.Thread why = absurd why
      go Service.Miscounted why = absurd why
      go Service.Write why = absurd why

  -- that of whoever looks
  pub lacks_status : (fault : ServiceFault) → r ≡ Err fault → IsBound Bound listen
      → IsBoundToo Bound admin → (fault ≡ Service.Listen) × IsUnboundToo Unbound status
      → IfErr r OfBinding
  lacks_status fault is bound too none =
      of_binding fault is (subst OfBinding (sym none.0) (inr (inr (bound, too, none.1))))

-- why serving failed, by what was missing
module _ {L X : Type 0} (Bound : List ℕ → L → Type 0) (Unbound : List ℕ → Type 0)
    (listen : List ℕ) (admin status : Option SocketAddrV4) (before after : ℕ) (Miscounts : Type 0)
    (r : Result X ServiceFault) where
  abbrev Of : ServiceFault → Type 0
  Of = IsOfServing Bound Unbound listen admin status before after Miscounts

  of : (fault : ServiceFault) → r ≡ Err fault → Of fault → IfErr r Of
  of fault is = subst (λ (x : Result X ServiceFault). IfErr x Of) (sym is)

  -- an address, or memory for one
  pub lacks_address : (fault : ServiceFault) → r ≡ Err fault → (text : List ℕ) → text ≡ listen
      → IsOfBinding Bound Unbound text admin status fault → IfErr r Of
  lacks_address fault is text same why =
      of fault is (go fault (subst
      (λ (xs : List ℕ). IsOfBinding Bound Unbound xs admin status fault) same why))
    where
      go : (f : ServiceFault) → IsOfBinding Bound Unbound listen admin status f → Of f
      go (Service.Config fault) why = absurd why
      go (Service.Exchanges few) why = absurd why
      go (Service.Descriptors few) why = absurd why
      go Service.Listen why = why
      go Service.Memory why = why
      go Service.Thread why = absurd why
      go Service.Miscounted why = absurd why
      go Service.Write why = absurd why

  -- memory alone
  pub lacks_memory : (fault : ServiceFault) → r ≡ Err fault → IsBound Bound listen
      → fault ≡ Service.Memory → IfErr r Of
  lacks_memory fault is bound memory = of fault is (subst Of (sym memory) bound)

  -- memory, or a thread
  pub lacks_workers : {Y : Type 0} (served : Result Y ServeFault) (fault : ServeFault)
      → served ≡ Err fault → r ≡ Err (of_workers fault) → IsBound Bound listen
      → (IsErrOf served Serve.Thread → after ≡ raised before) → IfErr r Of
  lacks_workers served fault was is bound thread = of (of_workers fault) is (go fault was)
    where
      go : (f : ServeFault) → served ≡ Err f → Of (of_workers f)
      go Serve.Memory was = bound
      go Serve.Thread was = (bound, thread was)
