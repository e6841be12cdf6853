-- What a `Job` says.
use Rattle.gr_job.specs.declared.job.Job.{Job}
use Rattle.gr_job.specs.Job.{JobValues}

-- what a `Job` says
abbrev pub values_of : Job → JobValues
values_of job = record {
  places = job.places;
  spares = job.spares;
  losses = job.losses;
  theta = job.theta;
  rounds = job.rounds;
  undirected = job.undirected;
  program = job.program;
}
