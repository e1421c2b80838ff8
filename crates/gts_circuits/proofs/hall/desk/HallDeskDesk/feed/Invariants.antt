use Rattle.gts_circuits.proofs.hall.desk.HallDeskDesk.feed.Given as goal

abbrev pub ghost-feed : goal.ghost-feed
ghost-feed g a = a.decoder.now
