-- What a cluster is loaded from.
use Rattle.gr_job.specs.declared.job.Job.{Job}
use Rattle.gr_cluster.specs.Load.{Setting}

-- what the cluster takes of a job
abbrev pub setting_of : Job → Setting
setting_of job = record { places = job.places; spares = job.spares; losses = job.losses; theta = job.theta; limit = job.rounds }
