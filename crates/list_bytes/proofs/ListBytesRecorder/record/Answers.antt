use Rattle.list_bytes.proofs.Listing.{still_within, still_small, still_whole, listed_more, in_use_more, unused_more}
use Rattle.list_bytes.proofs.ListBytesRecorder.record.Goals as goal

pub invariant_of-self-2 : goal.invariant_of-self-2
invariant_of-self-2 g c =
    let s = c.args.self.now in
    let wrote = c.in_ok-self.ensures in
    record {
      within = still_within _ _ _ _ _ s.whole wrote;
      small = still_small _ _ _ _ _ s.whole wrote s.small;
      whole = still_whole _ _ _ _ _ s.whole wrote;
    }

pub returns-clause-asked : goal.returns-clause-asked
returns-clause-asked g c = listed_more _ _ _ _ _ c.args.self.now.whole c.in_ok-self.ensures

pub returns-clause-list : goal.returns-clause-list
returns-clause-list g c = in_use_more _ _ _ _ _ c.args.self.now.whole c.in_ok-self.ensures

pub returns-clause-rest : goal.returns-clause-rest
returns-clause-rest g c = unused_more _ _ _ _ _ c.args.self.now.whole c.in_ok-self.ensures
