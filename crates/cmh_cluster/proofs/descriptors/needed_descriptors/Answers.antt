use Rattle.cmh_cluster.proofs.descriptors.needed_descriptors.Goals as goal

pub returns-clause-needed : goal.returns-clause-needed
returns-clause-needed c = (c.in_ok-setting.setting.world, c.in_ok-setting.ensures.world, (cc))
