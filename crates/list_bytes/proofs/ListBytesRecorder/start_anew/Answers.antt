use Rattle.list_bytes.proofs.Listing.{anew_whole, anew_within, anew_listed}
use Rattle.list_bytes.proofs.ListBytesRecorder.start_anew.Goals as goal

pub invariant_of-self : goal.invariant_of-self
invariant_of-self c =
    let s = c.args.self.now in
    record { within = anew_within _ _ s.whole s.within; small = s.small; whole = anew_whole _ _ s.whole }

pub returns-clause-anew : goal.returns-clause-anew
returns-clause-anew c = anew_listed _ _ c.args.self.now.whole
