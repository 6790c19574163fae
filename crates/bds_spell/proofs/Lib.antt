mod Spelled
mod StmtSpelled
mod Fitting
mod Legality
mod StmtLegality
